-- A line's first word, and the words after it.
use Rattle.std.proofs.Common.{◌≡◌, ℕ, ◌+◌, ◌-◌, ◌<◌, ◌≤◌, Bool, true, false, cond, not, eqb, List, [], ◌∷◌, length, take, drop, Some, None, refl, ap, ◌∙◌, one-add, arith}
use Rattle.std.specs.List.{position, position_or_len}
use Rattle.std.proofs.lemmas.List.{drop_more, drop_all, take_all, take_rest}
use Rattle.std.proofs.lemmas.Bool.Decides.{nat_tests}
use Rattle.script.specs.Words.{Word, words, onto}

-- where the first space is
abbrev pub space : List ℕ → ℕ
space xs = position_or_len (λ c. eqb c 32) xs

-- the words after the first, of what begins with the space that ends it
abbrev after : List ℕ → List Word
after [] = []
after (c ∷ cs) = words cs

split : (xs : List ℕ) → words xs ≡ take (space xs) xs ∷ after (drop (space xs) xs)
split [] = refl
split (c ∷ cs) = go (eqb c 32) (split cs)
  where
    go : (t : Bool) → words cs ≡ take (space cs) cs ∷ after (drop (space cs) cs) → cond t ([] ∷ words cs) (onto c (words cs)) ≡ take (cond (not t) (1 + space cs) 0) (c ∷ cs) ∷ after (drop (cond (not t) (1 + space cs) 0) (c ∷ cs))
    go true e = refl
    go false e = rw (one-add (space cs)) (ap (onto c) e)

found : (xs : List ℕ) → space xs < length xs → words xs ≡ take (space xs) xs ∷ words (drop (space xs + 1) xs)
found xs h = split xs ∙ rw (drop_more xs (space xs) 0 h) refl

-- `&xs[n + 1..]` is what is left behind the space
pub split_some : (xs : List ℕ) (n : ℕ) → Some n ≡ position (λ c. eqb c 32) xs → words xs ≡ take n xs ∷ words (take (length xs - (n + 1)) (drop (n + 1) xs))
split_some xs n e =
    let h : space xs < length xs = grind (arith, nat_tests) in
    let same : n ≡ space xs = grind (arith, nat_tests) in
    rw (take_rest xs (n + 1), same) (found xs h)

pub split_none : (xs : List ℕ) → None ≡ position (λ c. eqb c 32) xs → words xs ≡ xs ∷ []
split_none xs e =
    let past : length xs ≤ space xs = grind (arith, nat_tests) in
    split xs ∙ rw (drop_all (space xs) xs past, take_all (space xs) xs past) refl
