-- Numbers and zeros as bytes, and what it is to read a block.
--
--   bytes2 n, bytes4 n        the number n in two bytes and in four, the low byte first
--   at2 b i, at4 b i          the number in the two bytes, or the four, of b from place i on
--   bytes_from b i n          the n bytes of b from place i on; past the end they count as zero
--   zeros n                   n bytes that are zero
--   AllZero b                 each byte of b is zero
--   ReadsBack Ok block b r    b reads as r: as c exactly where c is Ok and its block is b, else as nothing
use Rattle.std.specs.Prelude.{◌≡◌, ℕ, zero, suc, ◌+◌, ◌*◌, ◌/◌, ◌%◌, ◌<◌, List, [], ◌∷◌, length, replicate, Some, Option, slice_index}

-- all of a number below 2^16
abbrev pub bytes2 : ℕ → List ℕ
bytes2 n = n % 256 ∷ n / 256 % 256 ∷ []

-- all of a number below 2^32
abbrev pub bytes4 : ℕ → List ℕ
bytes4 n = n % 256 ∷ n / 256 % 256 ∷ n / 65536 % 256 ∷ n / 16777216 % 256 ∷ []

abbrev pub at2 : List ℕ → ℕ → ℕ
at2 b i = slice_index b i + slice_index b (i + 1) * 256

abbrev pub at4 : List ℕ → ℕ → ℕ
at4 b i = slice_index b i + slice_index b (i + 1) * 256 + slice_index b (i + 2) * 65536 + slice_index b (i + 3) * 16777216

abbrev pub bytes_from : List ℕ → ℕ → ℕ → List ℕ
bytes_from b i zero = []
bytes_from b i (suc n) = slice_index b i ∷ bytes_from b (i + 1) n

-- kept shut in proofs, since it is long
unfoldable pub zeros : ℕ → List ℕ
zeros n = replicate n 0

abbrev pub AllZero : List ℕ → Type 0
AllZero b = (k : ℕ) → k < length b → slice_index b k ≡ 0

-- so no two values that are Ok have one block, and bytes that are no such block read as nothing
abbrev pub ReadsBack : {C : Type 0} → (C → Type 0) → (C → List ℕ) → List ℕ → Option C → Type 0
ReadsBack {C} Ok block b r = (c : C) → (r ≡ Some c → Ok c × (block c ≡ b)) × (Ok c × (block c ≡ b) → r ≡ Some c)
