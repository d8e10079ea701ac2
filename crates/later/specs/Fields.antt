-- Numbers are in a total order, and so are values that rank by their fields and then by a total order of the rest.
use Rattle.std.specs.Prelude.{◌≡◌, ℕ, Bool, true, ◌⊎◌, List, [], ◌∷◌, ◌≢◌, nat_le, refl}
use Rattle.std.proofs.Common.{inl, inr, arith}
use Rattle.std.proofs.lemmas.Bool.{cases_eq, eq-eqb}
use Rattle.std.proofs.lemmas.Bool.Decides.{nat_tests}
use Rattle.later.specs.Order.{TotalOrder, by_fields}

pub numbers_ordered : TotalOrder nat_le
numbers_ordered = record {
  reflexive = λ x. grind (arith, nat_tests);
  transitive = λ x y z h k. grind (arith, nat_tests);
  antisymmetric = λ x y h k. grind (arith, nat_tests);
  total = λ x y. grind (arith, nat_tests);
}

-- In these lemmas p, q and r are what the rest says.
pub fields_reflexive : (xs : List ℕ) (p : Bool) → p ≡ true → by_fields xs xs p ≡ true
fields_reflexive [] p h = h
fields_reflexive (x ∷ xs) p h = rw (eq-eqb x x refl) (fields_reflexive xs p h)

pub fields_transitive : (xs ys zs : List ℕ) (p q r : Bool) → (p ≡ true → q ≡ true → r ≡ true) → by_fields xs ys p ≡ true → by_fields ys zs q ≡ true → by_fields xs zs r ≡ true
fields_transitive [] [] [] p q r f h k = f h k
fields_transitive [] ys (z ∷ zs) p q r f h k = refl
fields_transitive [] (y ∷ ys) [] p q r f h k = cc
fields_transitive (x ∷ xs) [] zs p q r f h k = cc
fields_transitive (x ∷ xs) (y ∷ ys) [] p q r f h k = k
fields_transitive (x ∷ xs) (y ∷ ys) (z ∷ zs) p q r f h k = let t = fields_transitive xs ys zs p q r f in grind (arith, nat_tests)

pub fields_antisymmetric : (xs ys : List ℕ) (p q : Bool) → by_fields xs ys p ≡ true → by_fields ys xs q ≡ true → (xs ≡ ys) × (p ≡ true) × (q ≡ true)
fields_antisymmetric [] [] p q h k = (refl, h, k)
fields_antisymmetric [] (y ∷ ys) p q h k = cc
fields_antisymmetric (x ∷ xs) [] p q h k = cc
fields_antisymmetric (x ∷ xs) (y ∷ ys) p q h k =
    let e : x ≡ y = grind (arith, nat_tests) in
    let t = fields_antisymmetric xs ys p q (grind (arith, nat_tests)) (grind (arith, nat_tests)) in
    (cc (e, t.0), t.1, t.2)

pub fields_total : (xs ys : List ℕ) (p q : Bool) → (p ≡ true) ⊎ (q ≡ true) → (by_fields xs ys p ≡ true) ⊎ (by_fields ys xs q ≡ true)
fields_total [] [] p q h = h
fields_total [] (y ∷ ys) p q h = inl refl
fields_total (x ∷ xs) [] p q h = inr refl
fields_total (x ∷ xs) (y ∷ ys) p q h = let t = fields_total xs ys p q h in grind (arith, nat_tests)

-- where the fields differ, the rest does not count
pub fields_decide : (xs ys : List ℕ) (p q : Bool) → (xs ≢ ys) → by_fields xs ys p ≡ by_fields xs ys q
fields_decide [] [] p q n = absurd (n refl)
fields_decide [] (y ∷ ys) p q n = refl
fields_decide (x ∷ xs) [] p q n = refl
fields_decide (x ∷ xs) (y ∷ ys) p q n = let t = fields_decide xs ys p q in let b = cases_eq x y in grind (arith, nat_tests)

-- values with the same fields and the same rest are to be the same
pub by_fields_lem : {V W : Type 0} {upto : W → W → Bool} → TotalOrder upto → (fields : V → List ℕ) (rest : V → W) →
    ((x y : V) → fields x ≡ fields y → rest x ≡ rest y → x ≡ y) → TotalOrder (λ x y. by_fields (fields x) (fields y) (upto (rest x) (rest y)))
by_fields_lem o fields rest one = record {
  reflexive = λ x. fields_reflexive (fields x) _ (o.reflexive (rest x));
  transitive = λ x y z. fields_transitive (fields x) (fields y) (fields z) _ _ _ (o.transitive (rest x) (rest y) (rest z));
  antisymmetric = λ x y h k.
      let e = fields_antisymmetric (fields x) (fields y) _ _ h k in
      one x y e.0 (o.antisymmetric (rest x) (rest y) e.1 e.2);
  total = λ x y. fields_total (fields x) (fields y) _ _ (o.total (rest x) (rest y));
}
