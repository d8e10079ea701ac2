-- Keeping the later of two values, under any order.
--
--   later upto x y           the later of the two
--   latest upto k xs         what is kept where k was, once the values xs have come, one after another
--   kept_later upto l i x    the list l once the value x has come to its place i
--   kept_all upto l cs       the list l once all of cs have come, one after another, each a place with a value
--   came_to i cs             the values of cs that came to place i
--   Among x xs               x is one of xs
--   SameMembers xs ys        what is in one of the lists is in the other, in whatever order and however often
--   KeepsTheLatest upto      the law of what is kept: neither the order in which values come nor how often each comes counts
--   KeptBy cmp upto          values that cmp compares are kept by the total order upto
use Rattle.std.specs.Prelude.{◌≡◌, ℕ, ◌<◌, Bool, true, cond, ◌⊎◌, List, [], ◌∷◌, length, ◌==◌, slice_index_or, slice_set}
use Rattle.std.specs.declared.cmp.Ordering.{Ordering}
use Rattle.later.specs.Order.{TotalOrder, upto_by}

-- of equal values it does not matter which
abbrev pub later : {V : Type 0} → (V → V → Bool) → V → V → V
later upto x y = cond (upto x y) y x

abbrev pub latest : {V : Type 0} → (V → V → Bool) → V → List V → V
latest upto k [] = k
latest upto k (x ∷ xs) = latest upto (later upto k x) xs

-- the later of the two stands at place i and all else is unchanged; a place past the end changes nothing
abbrev pub kept_later : {V : Type 0} → (V → V → Bool) → List V → ℕ → V → List V
kept_later upto l i x = slice_set l i (later upto (slice_index_or l i x) x)

abbrev pub kept_all : {V : Type 0} → (V → V → Bool) → List V → List (ℕ × V) → List V
kept_all upto l [] = l
kept_all upto l (c ∷ cs) = kept_all upto (kept_later upto l c.0 c.1) cs

abbrev pub came_to : {V : Type 0} → ℕ → List (ℕ × V) → List V
came_to i [] = []
came_to i (c ∷ cs) = cond (c.0 == i) (c.1 ∷ came_to i cs) (came_to i cs)

abbrev pub Among : {V : Type 0} → V → List V → Type 0
Among x [] = ⊥
Among x (y ∷ ys) = (x ≡ y) ⊎ Among x ys

abbrev pub SameMembers : {V : Type 0} → List V → List V → Type 0
SameMembers {V} xs ys = (x : V) → (Among x xs → Among x ys) × (Among x ys → Among x xs)

pub record KeepsTheLatest {V : Type 0} (upto : V → V → Bool) : Type 0 where
  -- in one place: what is kept is what was there or one of the values that came
  pub met : (k : V) (xs : List V) → Among (latest upto k xs) (k ∷ xs)
  -- and none of these is later
  pub none_later : (k : V) (xs : List V) (x : V) → Among x (k ∷ xs) → upto x (latest upto k xs) ≡ true
  -- so the same values leave the same, in whatever order they come and however often
  pub same : (k : V) (xs ys : List V) → SameMembers xs ys → latest upto k xs ≡ latest upto k ys
  -- in a list: each place keeps the latest of what came to it
  pub places : (l : List V) (cs : List (ℕ × V)) (i : ℕ) (d : V) → i < length l → slice_index_or (kept_all upto l cs) i d ≡ latest upto (slice_index_or l i d) (came_to i cs)
  -- so the same values to the same places leave the same list
  pub same_list : (l : List V) (cs ds : List (ℕ × V)) → SameMembers cs ds → kept_all upto l cs ≡ kept_all upto l ds

-- the order that the code compares by, as a derived one, is the one that the definitions name
pub record KeptBy {V : Type 0} (cmp : V → V → Ordering) (upto : V → V → Bool) : Type 0 where
  pub order : TotalOrder upto
  pub same : (x y : V) → upto_by cmp x y ≡ upto x y
  pub lawful : KeepsTheLatest upto
