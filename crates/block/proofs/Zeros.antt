-- Laws of `zeros`.
use Rattle.std.proofs.Common.{◌≡◌, ℕ, zero, suc, ◌+◌, ◌-◌, ◌≤◌, List, [], ◌∷◌, ◌++◌, length, get_or, drop, sym, refl, ◌∙◌, arith}
use Rattle.std.proofs.lemmas.List.{length-replicate, drop-replicate, replicate-append-replicate, ext_get_or}
use Rattle.std.proofs.lemmas.Slice.{between_to_end}
use Rattle.std.proofs.lemmas.List.Edits.{length-between}
use Rattle.std.specs.List.{between}
use Rattle.block.specs.Bytes.{zeros, AllZero}

pub length_zeros : (n : ℕ) → length (zeros n) ≡ n
unfolding zeros
length_zeros n = length-replicate n 0

-- also past the end, where the default is 0 as well
pub get_or_zeros : (n i : ℕ) → get_or (zeros n) i 0 ≡ 0
unfolding zeros
get_or_zeros zero i = refl
get_or_zeros (suc n) zero = refl
get_or_zeros (suc n) (suc i) = get_or_zeros n i

pub drop_zeros : (m n : ℕ) → drop m (zeros n) ≡ zeros (n - m)
unfolding zeros
drop_zeros m n = drop-replicate m n 0

pub zeros_join : (m n : ℕ) → zeros m ++ zeros n ≡ zeros (m + n)
unfolding zeros
zeros_join m n = replicate-append-replicate m n 0

-- the high bytes of a small number in four bytes
pub three_zeros : 0 ∷ 0 ∷ 0 ∷ [] ≡ zeros 3
unfolding zeros
three_zeros = refl

-- bytes are zeros exactly where each of them is zero
pub zeros_from : (xs : List ℕ) (n : ℕ) → length xs ≡ n → AllZero xs → xs ≡ zeros n
zeros_from xs n e h = ext_get_or 0 xs (zeros n) (e ∙ sym (length_zeros n)) (λ i l. h i l ∙ sym (get_or_zeros n i))

pub zero_each : (xs : List ℕ) (n : ℕ) → xs ≡ zeros n → AllZero xs
zero_each xs n e k h = rw e (get_or_zeros n k)

-- bytes copied over the first of n zeros, as `block[..front.len()]` has them
pub over_zeros : (n : ℕ) (front part : List ℕ) → part ≡ front → part ++ drop (length front) (zeros n) ≡ front ++ zeros (n - length front)
over_zeros n front part e = let d = drop_zeros (length front) n in cc

-- the bytes from m on up to n, as a reader looks at them in `&block[m..n]`
pub part_is_zeros : (b : List ℕ) (m n : ℕ) → n ≤ length b → AllZero (between m n b) → between m n b ≡ zeros (n - m)
part_is_zeros b m n l h = zeros_from (between m n b) (n - m) (length-between b m n l) h

-- the bytes behind the first m, as a reader looks at them in `&block[m..n]`
pub tail_is_zeros : (b : List ℕ) (m n : ℕ) → length b ≡ n → AllZero (between m n b) → drop m b ≡ zeros (n - m)
tail_is_zeros b m n l h =
    sym (between_to_end b m n (omega arith)) ∙ part_is_zeros b m n (omega arith) h

pub zero_tail : (b : List ℕ) (m n : ℕ) → length b ≡ n → drop m b ≡ zeros (n - m) → AllZero (between m n b)
zero_tail b m n l e = zero_each (between m n b) (n - m) (between_to_end b m n (omega arith) ∙ e)
