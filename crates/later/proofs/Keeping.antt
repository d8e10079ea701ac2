-- What is kept of many values is the latest of them.
use Rattle.std.proofs.Common.{◌≡◌, Bool, true, List, [], ◌∷◌, refl, inl, inr, ⊎_elim, arith, rules}
use Rattle.std.proofs.lemmas.Bool.{cases_Bool}
use Rattle.later.specs.Order.{TotalOrder}
use Rattle.later.specs.Keeping.{later, latest, Among, SameMembers}

module _ {V : Type 0} {upto : V → V → Bool} (o : TotalOrder upto) where
  pub first_upto : (x y : V) → upto x (later upto x y) ≡ true
  first_upto x y = let r = o.reflexive x in let d = cases_Bool (upto x y) in grind arith

  pub second_upto : (x y : V) → upto y (later upto x y) ≡ true
  second_upto x y = let r = o.reflexive y in let t = o.total x y in let d = cases_Bool (upto x y) in grind arith

  pub start_upto : (k : V) (xs : List V) → upto k (latest upto k xs) ≡ true
  start_upto k [] = o.reflexive k
  start_upto k (x ∷ xs) = o.transitive k (later upto k x) _ (first_upto k x) (start_upto (later upto k x) xs)

  pub none_later : (k : V) (xs : List V) (x : V) → Among x (k ∷ xs) → upto x (latest upto k xs) ≡ true
  none_later k xs x (inl e) = let s = start_upto k xs in cc
  none_later k [] x (inr m) = absurd m
  none_later k (y ∷ ys) x (inr (inl e)) = let s = start_upto (later upto k y) ys in let t = o.transitive y (later upto k y) _ (second_upto k y) s in cc
  none_later k (y ∷ ys) x (inr (inr m)) = none_later (later upto k y) ys x (inr m)

  pub met : (k : V) (xs : List V) → Among (latest upto k xs) (k ∷ xs)
  met k [] = inl refl
  met k (x ∷ xs) = let m = met (later upto k x) xs in let d = cases_Bool (upto k x) in search rules

  upto_same : (k : V) (xs ys : List V) → ((x : V) → Among x xs → Among x ys) → upto (latest upto k xs) (latest upto k ys) ≡ true
  upto_same k xs ys f = none_later k ys _ (⊎_elim (λ e. inl e) (λ m. inr (f _ m)) (met k xs))

  pub same : (k : V) (xs ys : List V) → SameMembers xs ys → latest upto k xs ≡ latest upto k ys
  same k xs ys f = o.antisymmetric _ _ (upto_same k xs ys (λ x. (f x).0)) (upto_same k ys xs (λ x. (f x).1))
