-- Parts of a block: what was joined can be taken apart again.
use Rattle.std.proofs.Common.{◌≡◌, ℕ, ◌+◌, ◌-◌, ◌<◌, List, [], ◌++◌, length, get_or, take, drop, sym, refl, ap, ◌∙◌, ⊎_elim, arith}
use Rattle.std.specs.List.{between}
use Rattle.std.proofs.lemmas.List.{append_assoc, length-append, length-take, take_at, drop_at, drop-drop, get_or-take, get_or-drop, get_or_past}
use Rattle.std.proofs.lemmas.Slice.{between_is}
use Rattle.std.proofs.lemmas.Bool.{cases_lt}
use Rattle.block.specs.Bytes.{zeros}
use Rattle.block.proofs.Numbers.{AllBytes}
use Rattle.block.proofs.Zeros.{drop_zeros}

pub between_at : (xs ys zs : List ℕ) (i j : ℕ) → length xs ≡ i → length ys ≡ j - i → between i j (xs ++ (ys ++ zs)) ≡ ys
between_at xs ys zs i j l m = ap (take (j - i)) (drop_at xs (ys ++ zs) i l) ∙ take_at ys zs (j - i) m

pub drop_of_between : (xs : List ℕ) (i j k : ℕ) → drop k (between i j xs) ≡ between (i + k) j xs
drop_of_between xs i j k = ap (drop k) (between_is xs i j) ∙ drop-drop k i (take j xs) ∙ sym (between_is xs (i + k) j)

pub bytes_between : (b : List ℕ) (i j : ℕ) → AllBytes b → AllBytes (between i j b)
bytes_between b i j small k =
    let inner : k < j - i → get_or (between i j b) k 0 < 256 = λ h. omega (arith, get_or-take (j - i) (drop i b) k 0 h, get_or-drop i b k 0, small (i + k)) in
    ⊎_elim inner (λ h. omega (arith, get_or_past (between i j b) k 0 (omega (arith, length-take (j - i) (drop i b))))) (cases_lt k (j - i))

-- a part written over a block from a place on
abbrev pub over : List ℕ → ℕ → List ℕ → List ℕ
over block at part = take at block ++ (part ++ drop (at + length part) block)

-- at the end of what stands before zeros
over_next : (block front part : List ℕ) (at n : ℕ) → block ≡ front ++ zeros n → length front ≡ at → over block at part ≡ (front ++ part) ++ zeros (n - length part)
over_next block front part at n e l =
    let t = take_at front (zeros n) at l in
    let d = drop_at front (zeros n) at l in
    let z = drop_zeros (length part) n in
    let dd = drop-drop (length part) at (front ++ zeros n) in
    let a = append_assoc front part (zeros (n - length part)) in
    cc

-- four parts, one behind the other
pub four_parts : (h s x y b0 b1 b2 b3 b4 : List ℕ) → length h ≡ 16 → length s ≡ 16 → b0 ≡ zeros 512 → b1 ≡ over b0 0 h → b2 ≡ over b1 16 s → b3 ≡ over b2 32 x → b4 ≡ over b3 (32 + length x) y → b4 ≡ h ++ (s ++ (x ++ (y ++ zeros (480 - (length x + length y)))))
four_parts h s x y b0 b1 b2 b3 b4 lh ls e0 e1 e2 e3 e4 =
    let f1 : b1 ≡ h ++ zeros (512 - length h) = e1 ∙ over_next b0 [] h 0 512 e0 refl in
    let f2 = e2 ∙ over_next b1 h s 16 _ f1 lh in
    let l2 : length (h ++ s) ≡ 32 = omega (arith, length-append h s) in
    let f3 = e3 ∙ over_next b2 (h ++ s) x 32 _ f2 l2 in
    let l3 : length ((h ++ s) ++ x) ≡ 32 + length x = omega (arith, length-append (h ++ s) x) in
    let f4 = e4 ∙ over_next b3 ((h ++ s) ++ x) y (32 + length x) _ f3 l3 in
    let n : 512 - length h - length s - length x - length y ≡ 480 - (length x + length y) = omega arith in
    f4 ∙ ap (λ k. (((h ++ s) ++ x) ++ y) ++ zeros k) n ∙ simp append_assoc
