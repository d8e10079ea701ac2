-- Total orders, and how one is made field by field.
--
--   TellsApart cmp          values that cmp finds equal are the same
--   upto_by cmp x y         x is no later than y, where cmp compares the two
--   TotalOrder upto         upto x y, read as "x is no later than y", is a total order
--   by_first x y rest       whether the field x is below the field y, and where they are the same, the rest
--   by_fields xs ys rest    the same of several fields: the first in which the two differ decides
use Rattle.std.specs.Prelude.{◌≡◌, ℕ, Bool, true, false, cond, ◌⊎◌, List, [], ◌∷◌, ◌==◌, nat_lt}
use Rattle.std.specs.declared.cmp.Ordering.{Ordering}
use Rattle.std.specs.declared.cmp.Ordering.TheVariants.{Equal}
use Rattle.std.specs.Ordering.{is_le}

abbrev pub TellsApart : {V : Type 0} → (V → V → Ordering) → Type 0
TellsApart {V} cmp = (x y : V) → cmp x y ≡ Equal → x ≡ y

abbrev pub upto_by : {V : Type 0} → (V → V → Ordering) → V → V → Bool
upto_by cmp x y = is_le (cmp x y)

pub record TotalOrder {V : Type 0} (upto : V → V → Bool) : Type 0 where
  pub reflexive : (x : V) → upto x x ≡ true
  pub transitive : (x y z : V) → upto x y ≡ true → upto y z ≡ true → upto x z ≡ true
  pub antisymmetric : (x y : V) → upto x y ≡ true → upto y x ≡ true → x ≡ y
  pub total : (x y : V) → (upto x y ≡ true) ⊎ (upto y x ≡ true)

abbrev pub by_first : ℕ → ℕ → Bool → Bool
by_first x y rest = cond (x == y) rest (nat_lt x y)

-- a list that ends where the other goes on is the lower
abbrev pub by_fields : List ℕ → List ℕ → Bool → Bool
by_fields [] [] rest = rest
by_fields [] (y ∷ ys) rest = true
by_fields (x ∷ xs) [] rest = false
by_fields (x ∷ xs) (y ∷ ys) rest = by_first x y (by_fields xs ys rest)
