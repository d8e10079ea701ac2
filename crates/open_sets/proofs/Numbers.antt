-- The open set of a number: what is found, what takes a step, and what stays where it ends.
use Rattle.std.proofs.Common.{◌≡◌, ℕ, zero, suc, ◌<◌, ◌≤◌, Bool, true, false, cond, not, eqb, List, [], ◌∷◌, map, filter, length, get_or, take, set, Some, None, Option, refl, sym, ap, ◌∙◌, arith}
use lib.Seq.{take-set-lt}
use Rattle.std.proofs.lemmas.Grind.{common_steps}
use Rattle.std.proofs.lemmas.List.{length-take-le, get_or-take, set-get_or}
use Rattle.std.proofs.lemmas.List.Quantifiers.{position-Some}
use Rattle.std.specs.List.{position}
use Rattle.model.specs.Store as store
use Rattle.model.specs.Sets.{is_open, set_of, without, stepped, stepping}
use Rattle.open_sets.specs.declared.OpenSet.{OpenSet}
use Rattle.open_sets.specs.Views.{set_in}

-- whether a set has the number
abbrev pub has : ℕ → OpenSet → Bool
has s o = eqb o.number s

-- the sets of another number stay
abbrev pub is_other : ℕ → OpenSet → Bool
is_other s o = not (has s o)

others_stay : (xs : List OpenSet) (s : ℕ) → map set_in (filter (is_other s) xs) ≡ without (map set_in xs) s
others_stay [] s = refl
others_stay (x ∷ xs) s = grind (arith, others_stay xs s)

pub ended : (xs ys : List OpenSet) (s : ℕ) → ys ≡ filter (is_other s) xs → map set_in ys ≡ without (map set_in xs) s
ended xs ys s e = ap (map set_in) e ∙ others_stay xs s

-- what the checker reads past the end of a list of sets
abbrev pub blank : OpenSet
blank = record { number = 0; steps = 0; uses = record { bits = 0 } }

-- at the first place of a number
at_first : (xs : List OpenSet) (s i : ℕ) → (i < length xs) × (has s (get_or xs i blank) ≡ true) × ((k : ℕ) → k < i → has s (get_or xs k blank) ≡ false) →
    (is_open (map set_in xs) s ≡ true) × (set_of (map set_in xs) s ≡ set_in (get_or xs i blank)) ×
    ((d : ℕ) (x : OpenSet) → set_in x ≡ stepped d (set_in (get_or xs i blank)) → map set_in (set xs i x) ≡ stepping (map set_in xs) s d)
at_first [] s i p = absurd (omega (arith, p.0))
at_first (x ∷ xs) s zero p = let e = p.1 in (rw e, rw e, λ d y q. rw (e, q))
at_first (x ∷ xs) s (suc i) p =
    let e : eqb x.number s ≡ false = p.2 0 (omega arith) in
    let next = at_first xs s i (omega (arith, p.0), p.1, λ k l. p.2 (suc k) (omega (arith, l))) in
    (rw e next.0, rw e next.1, λ d y q. rw e (ap (λ os. set_in x ∷ os) (next.2 d y q)))

-- the set there, among the first n of xs, is the open set of its number, and it is the one that takes a step
pub record AtPlace (xs : List OpenSet) (n s i : ℕ) : Type 0 where
  pub found : ◌≡◌ {A = Option store.OpenSet} (Some (set_in (get_or xs i blank))) (cond (is_open (map set_in (take n xs)) s) (Some (set_of (map set_in (take n xs)) s)) None)
  pub step : (set_of (map set_in (take n xs)) s).steps ≡ (get_or xs i blank).steps
  pub steps : (d : ℕ) (x : OpenSet) → set_in x ≡ stepped d (set_in (get_or xs i blank)) → map set_in (take n (set xs i x)) ≡ stepping (map set_in (take n xs)) s d
  pub rests : (x : OpenSet) → x ≡ get_or xs i blank → map set_in (take n (set xs i x)) ≡ map set_in (take n xs)

module _ (xs : List OpenSet) (n : ℕ) (fits : n ≤ length xs) (s i : ℕ) (e : position (has s) (take n xs) ≡ Some i) where
  first : (i < length (take n xs)) × (has s (get_or (take n xs) i blank) ≡ true) × ((k : ℕ) → k < i → has s (get_or (take n xs) k blank) ≡ false)
  first = position-Some (has s) (take n xs) i blank e

  below : i < n
  below = omega (arith, first.0, length-take-le n xs fits)

  pub at_place : AtPlace xs n s i
  at_place =
      let here = at_first (take n xs) s i first in
      let there : get_or (take n xs) i blank ≡ get_or xs i blank = get_or-take n xs i blank below in
      let is : set_of (map set_in (take n xs)) s ≡ set_in (get_or xs i blank) = here.1 ∙ ap set_in there in
      record {
        found = rw (here.0, is);
        step = ap (λ o. o.steps) is;
        steps = λ d x q. ap (map set_in) (take-set-lt n xs i x below) ∙ here.2 d x (q ∙ ap (λ o. stepped d (set_in o)) (sym there));
        rests = λ x q. ap (λ y. map set_in (take n (set xs i y))) q ∙ ap (λ ys. map set_in (take n ys)) (set-get_or xs i blank);
      }

-- where a set is not open, nothing is found, and nobody takes a step
not_open : (xs : List OpenSet) (s : ℕ) → position (has s) xs ≡ None → is_open (map set_in xs) s ≡ false
not_open [] s e = refl
not_open (x ∷ xs) s e = grind (arith, common_steps, not_open xs s)

pub not_found : (xs : List OpenSet) (s : ℕ) → position (has s) xs ≡ None → ◌≡◌ {A = Option store.OpenSet} None (cond (is_open (map set_in xs) s) (Some (set_of (map set_in xs) s)) None)
not_found xs s e = rw (not_open xs s e)

pub no_place : (xs : List OpenSet) (s d : ℕ) → position (has s) xs ≡ None → map set_in xs ≡ stepping (map set_in xs) s d
no_place [] s d e = refl
no_place (x ∷ xs) s d e = grind (arith, common_steps, no_place xs s d)
