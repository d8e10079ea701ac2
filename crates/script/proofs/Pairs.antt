-- The bytes that a word writes, by its pairs of digits.
use Rattle.std.proofs.Common.{◌≡◌, ℕ, ◌+◌, ◌*◌, ◌/◌, ◌%◌, ◌<◌, zero, suc, ◌++◌, ◌∙◌, List, [], ◌∷◌, length, get_or, drop, Some, None, Option, refl, ap, arith}
use Rattle.std.specs.Simd.{first_chunks}
use Rattle.std.proofs.lemmas.List.{drop_more}
use Rattle.script.proofs.Upon.{upon, upon_none, upon_more}
use Rattle.script.specs.Values.{both, byte_in, bytes_in, hex_in}

-- the bytes that the pairs write, if each writes one
abbrev pub pairs_in : List (List ℕ) → Option (List ℕ)
pairs_in [] = Some []
pairs_in (p ∷ ps) = both ◌∷◌ (byte_in (get_or p 0 0) (get_or p 1 0)) (pairs_in ps)

pub even : (n : ℕ) (w : List ℕ) → length w ≡ n * 2 → pairs_in (first_chunks 2 n w) ≡ bytes_in w
even zero [] h = refl
even zero (a ∷ w) h = absurd (omega arith)
even (suc n) [] h = absurd (omega arith)
even (suc n) (a ∷ []) h = absurd (omega arith)
even (suc n) (a ∷ b ∷ w) h = ap (both ◌∷◌ (byte_in a b)) (even n w (omega arith))

pub odd : (n : ℕ) (w : List ℕ) → length w ≡ n * 2 + 1 → None ≡ bytes_in w
odd n [] h = absurd (omega arith)
odd n (a ∷ []) h = refl
odd zero (a ∷ b ∷ w) h = absurd (omega arith)
odd (suc n) (a ∷ b ∷ w) h = rw (← odd n w (omega arith)) (lost (byte_in a b))
  where
    lost : (o : Option ℕ) → None ≡ both ◌∷◌ o None
    lost None = refl
    lost (Some x) = refl

-- before the first pair
pub begun : (bs : List ℕ) (ps : List (List ℕ)) (w : List ℕ) → bs ≡ [] → 0 < length w → pairs_in ps ≡ bytes_in w → upon bs (pairs_in ps) ≡ hex_in w
begun bs ps [] e h p = absurd (omega arith)
begun bs ps (c ∷ w) e h p = rw e (upon_none (pairs_in ps) ∙ p)

-- a pair more
pub pairs_more : (bs new : List ℕ) (ps : List (List ℕ)) (i b : ℕ) (d : List ℕ) → i < length ps → Some b ≡ byte_in (get_or (get_or ps i d) 0 0) (get_or (get_or ps i d) 1 0) → new ≡ bs ++ b ∷ [] →
    upon new (pairs_in (drop (i + 1) ps)) ≡ upon bs (pairs_in (drop i ps))
pairs_more bs new ps i b d h r e = rw (e, drop_more ps i d h) (upon_more bs b (pairs_in (drop (i + 1) ps)) ∙ ap (λ o. upon bs (both ◌∷◌ o (pairs_in (drop (i + 1) ps)))) r)

-- a word of no bytes, or of an odd count of them
pub no_pairs : (w : List ℕ) → length w ≡ 0 → None ≡ hex_in w
no_pairs [] h = refl
no_pairs (c ∷ w) h = absurd (omega arith)

pub odd_hex : (w : List ℕ) → (length w % 2 ≡ 0 → ⊥) → None ≡ hex_in w
odd_hex [] h = refl
odd_hex (c ∷ w) h = odd (length (c ∷ w) / 2) (c ∷ w) (omega (arith, h))
