-- Numbers as bytes: reading what was written, and writing what was read.
use Rattle.std.proofs.Common.{◌≡◌, ℕ, zero, suc, ◌+◌, ◌*◌, ◌/◌, ◌%◌, ◌^◌, ◌<◌, ◌≤◌, List, [], ◌∷◌, ◌++◌, length, get_or, map, drop, refl, ap, ◌∙◌, arith}
use Rattle.std.proofs.lemmas.List.{drop_more, get_or-drop}
use Rattle.std.specs.List.{range_with_len}
use Rattle.block.specs.Bytes.{bytes2, bytes4, at2, at4, bytes_from}

pub at2_bytes2 : (n : ℕ) → n < 2 ^ 16 → at2 (bytes2 n) 0 ≡ n
at2_bytes2 n h = omega arith

pub at4_bytes4 : (n : ℕ) → n < 2 ^ 32 → at4 (bytes4 n) 0 ≡ n
at4_bytes4 n h = omega arith

-- the bytes from a place on, as they are found in the rest of a slice from there
pub bytes_from_rest : (b : List ℕ) (i n : ℕ) (rest : List ℕ) → rest ≡ drop i b → map (λ k. get_or rest k 0) (range_with_len 0 n) ≡ bytes_from b i n
bytes_from_rest b i n rest e = from 0 n ∙ ap (λ k. bytes_from b k n) (omega arith)
  where
    from : (j n : ℕ) → map (λ k. get_or rest k 0) (range_with_len j n) ≡ bytes_from b (i + j) n
    from j zero = refl
    from j (suc n) =
        let f : i + (j + 1) ≡ i + j + 1 = omega arith in
        let x : get_or rest j 0 ≡ get_or b (i + j) 0 = ap (λ s. get_or s j 0) e ∙ get_or-drop i b j 0 in
        let r = from (j + 1) n ∙ ap (λ k. bytes_from b k n) f in
        cc

pub drop_bytes_from : (b : List ℕ) (i n : ℕ) → i + n ≤ length b → drop i b ≡ bytes_from b i n ++ drop (i + n) b
drop_bytes_from b i zero h = ap (λ k. drop k b) (omega arith)
drop_bytes_from b i (suc n) h =
    let e : i + 1 + n ≡ i + suc n = omega arith in
    drop_more b i 0 (omega arith) ∙ ap (λ r. get_or b i 0 ∷ r) (drop_bytes_from b (i + 1) n (omega arith) ∙ ap (λ k. bytes_from b (i + 1) n ++ drop k b) e)

-- what stands in b are bytes
abbrev pub AllBytes : List ℕ → Type 0
AllBytes b = (k : ℕ) → get_or b k 0 < 256

two : (a b : ℕ) → a < 256 → b < 256 → bytes2 (a + b * 256) ≡ a ∷ b ∷ []
two a b h k =
    let p : (a + b * 256) % 256 ≡ a = omega arith in
    let q : (a + b * 256) / 256 % 256 ≡ b = omega arith in
    cc

four : (a b c d : ℕ) → a < 256 → b < 256 → c < 256 → d < 256 → bytes4 (a + b * 256 + c * 65536 + d * 16777216) ≡ a ∷ b ∷ c ∷ d ∷ []
four a b c d h i j k =
    let p : (a + b * 256 + c * 65536 + d * 16777216) % 256 ≡ a = omega arith in
    let q : (a + b * 256 + c * 65536 + d * 16777216) / 256 % 256 ≡ b = omega arith in
    let r : (a + b * 256 + c * 65536 + d * 16777216) / 65536 % 256 ≡ c = omega arith in
    let s : (a + b * 256 + c * 65536 + d * 16777216) / 16777216 % 256 ≡ d = omega arith in
    cc

pub bytes2_at2 : (b : List ℕ) (i : ℕ) → AllBytes b → bytes2 (at2 b i) ≡ get_or b i 0 ∷ get_or b (i + 1) 0 ∷ []
bytes2_at2 b i small = two _ _ (small i) (small (i + 1))

pub bytes4_at4 : (b : List ℕ) (i : ℕ) → AllBytes b → bytes4 (at4 b i) ≡ get_or b i 0 ∷ get_or b (i + 1) 0 ∷ get_or b (i + 2) 0 ∷ get_or b (i + 3) 0 ∷ []
bytes4_at4 b i small = four _ _ _ _ (small i) (small (i + 1)) (small (i + 2)) (small (i + 3))

-- a number of one byte in four
pub bytes4_low : (n : ℕ) → n < 256 → bytes4 n ≡ n ∷ 0 ∷ 0 ∷ 0 ∷ []
bytes4_low n h = ap bytes4 (omega arith) ∙ four n 0 0 0 h (omega arith) (omega arith) (omega arith)

pub at2_fits : (b : List ℕ) (i : ℕ) → AllBytes b → at2 b i < 2 ^ 16
at2_fits b i small = omega (arith, small i, small (i + 1))

pub at4_fits : (b : List ℕ) (i : ℕ) → AllBytes b → at4 b i < 2 ^ 32
at4_fits b i small = omega (arith, small i, small (i + 1), small (i + 2), small (i + 3))
