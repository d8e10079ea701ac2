-- Sizes in ten places.
use Rattle.std.proofs.Common.{◌≡◌, ℕ, zero, suc, ◌+◌, ◌-◌, ◌<◌, ◌≤◌, List, [], ◌∷◌, ◌++◌, length, get_or, set, take, replicate, append_assoc, refl, arith}
use Rattle.std.proofs.Math.Seq.{take-append_seam}
use Rattle.std.proofs.lemmas.List.{length-take-le, set-append_right, take_more}
use Rattle.rack.specs.Sizes.{padded, Padded}

-- a size more takes the place of a 0
pub padded_more : (xs : List ℕ) (i : ℕ) → i < length xs → i < 10 → set (padded (take i xs)) i (get_or xs i 0) ≡ padded (take (i + 1) xs)
padded_more xs i h k =
    let l = length-take-le i xs (omega arith) in
    let m = length-take-le (i + 1) xs (omega arith) in
    let behind : 10 - i ≡ suc (10 - (i + 1)) = omega arith in
    let here : i - i ≡ 0 = omega arith in
    rw (set-append_right (take i xs) _ i i (get_or xs i 0) l (omega arith), l, m, behind, here, take_more xs i 0 h, append_assoc)

-- as many sizes as there are, and no more, are the drives
pub padded_front : (xs : List ℕ) → take (length xs) (padded xs) ≡ xs
padded_front xs = take-append_seam xs (replicate (10 - length xs) 0)

pub padded_is : (xs : List ℕ) → length xs ≤ 10 → Padded (padded xs) (length xs)
padded_is xs h = record { few = h; full = rw padded_front; fill = rw padded_front }

fill_each : (xs : List ℕ) (n d : ℕ) → get_or (xs ++ replicate n 0) d 0 ≡ get_or xs d 0
fill_each [] zero d = refl
fill_each [] (suc n) zero = refl
fill_each [] (suc n) (suc d) = fill_each [] n d
fill_each (x ∷ xs) n zero = refl
fill_each (x ∷ xs) n (suc d) = fill_each xs n d

-- each place has the size of its drive, and 0 where there is no drive
pub padded_each : (xs : List ℕ) (d : ℕ) → get_or (padded xs) d 0 ≡ get_or xs d 0
padded_each xs d = fill_each xs (10 - length xs) d
