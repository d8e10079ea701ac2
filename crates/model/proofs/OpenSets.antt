-- The list of open sets, after a begin, a step and an end.
use Rattle.std.proofs.Common.{◌≡◌, ℕ, suc, ◌≤◌, true, ◌⊎◌, List, [], ◌∷◌, ◌++◌, length, refl, inr, ⊎_elim, arith}
use Rattle.std.proofs.lemmas.Bool.{cases_eq}
use Rattle.std.proofs.lemmas.Bool.Decides.{nat_tests}
use Rattle.std.proofs.lemmas.List.{length-append}
use Rattle.model.specs.Store.{OpenSet}
use Rattle.model.specs.Sets.{no_set, is_open, set_of, without, stepping}
use Rattle.model.specs.Warming.{new_set}

-- a set that has steps is open
pub steps_open : (os : List OpenSet) (s : ℕ) → 1 ≤ (set_of os s).steps → is_open os s ≡ true
steps_open [] s h = absurd (omega arith)
steps_open (o ∷ os) s h = grind (arith, nat_tests, steps_open os s)

pub some_open : (os : List OpenSet) (s : ℕ) → is_open os s ≡ true → 1 ≤ length os
some_open [] s e = absurd cc
some_open (o ∷ os) s e = omega arith

-- the open set of a number has that number
pub number_of : (os : List OpenSet) (s : ℕ) → is_open os s ≡ true → (set_of os s).number ≡ s
number_of [] s e = cc
number_of (o ∷ os) s e = grind (arith, nat_tests, number_of os s)

-- BEGIN

-- a new set has no steps, as a set that is not open
pub begun_steps : (os : List OpenSet) (n s : ℕ) → (set_of (os ++ (new_set n ∷ [])) s).steps ≡ (set_of os s).steps
begun_steps [] n s = grind (arith, nat_tests)
begun_steps (o ∷ os) n s = grind (arith, nat_tests, begun_steps os n s)

pub begun_open : (os : List OpenSet) (n s : ℕ) → is_open (os ++ (new_set n ∷ [])) s ≡ true → (is_open os s ≡ true) ⊎ (n ≡ s)
begun_open [] n s e = inr (grind (arith, nat_tests))
begun_open (o ∷ os) n s e = grind (arith, nat_tests, begun_open os n s)

pub length_begun : (os : List OpenSet) (n : ℕ) → length (os ++ (new_set n ∷ [])) ≡ suc (length os)
length_begun os n = rw length-append (omega arith)

-- STEP

pub stepped_open : (os : List OpenSet) (s d t : ℕ) → is_open (stepping os s d) t ≡ is_open os t
stepped_open [] s d t = refl
stepped_open (o ∷ os) s d t = grind (arith, nat_tests, stepped_open os s d t)

pub length_stepped : (os : List OpenSet) (s d : ℕ) → length (stepping os s d) ≡ length os
length_stepped [] s d = refl
length_stepped (o ∷ os) s d = grind (arith, nat_tests, length_stepped os s d)

-- at most one step more
abbrev OneMore : ℕ → ℕ → Type 0
OneMore a b = (a ≤ b) × (b ≤ suc a)

pub stepped_most : (os : List OpenSet) (s d t : ℕ) → OneMore (set_of os t).steps (set_of (stepping os s d) t).steps
stepped_most [] s d t = (omega arith, omega arith)
stepped_most (o ∷ os) s d t = (grind (arith, nat_tests, stepped_most os s d t), grind (arith, nat_tests, stepped_most os s d t))

-- the set itself has one more
pub stepped_own : (os : List OpenSet) (s d : ℕ) → is_open os s ≡ true → (set_of (stepping os s d) s).steps ≡ suc (set_of os s).steps
stepped_own [] s d e = absurd cc
stepped_own (o ∷ os) s d e = grind (arith, nat_tests, stepped_own os s d)

-- END

pub ended_self : (os : List OpenSet) (s : ℕ) → set_of (without os s) s ≡ no_set
ended_self [] s = refl
ended_self (o ∷ os) s = grind (arith, nat_tests, ended_self os s)

pub ended_other : (os : List OpenSet) (s t : ℕ) → (t ≡ s → ⊥) → set_of (without os s) t ≡ set_of os t
ended_other [] s t n = refl
ended_other (o ∷ os) s t n = grind (arith, nat_tests, ended_other os s t n)

-- an end gives no set steps
pub ended_steps : (os : List OpenSet) (s t : ℕ) → (set_of (without os s) t).steps ≤ (set_of os t).steps
ended_steps os s t = ⊎_elim (λ (e : t ≡ s). rw (e, ended_self os s) (omega arith)) (λ n. rw (ended_other os s t n) (omega arith)) (cases_eq t s)

pub ended_open : (os : List OpenSet) (s t : ℕ) → is_open (without os s) t ≡ true → is_open os t ≡ true
ended_open [] s t e = e
ended_open (o ∷ os) s t e = grind (arith, nat_tests, ended_open os s t)

length_ended_most : (os : List OpenSet) (s : ℕ) → length (without os s) ≤ length os
length_ended_most [] s = omega arith
length_ended_most (o ∷ os) s = grind (arith, nat_tests, length_ended_most os s)

pub length_ended : (os : List OpenSet) (s : ℕ) → is_open os s ≡ true → suc (length (without os s)) ≤ length os
length_ended [] s e = absurd cc
length_ended (o ∷ os) s e = grind (arith, nat_tests, length_ended os s, length_ended_most os s)
