-- The open sets of a warm store.
--
--   no_set             what stands for a set that is not open
--   is_open os s       set s is among the open sets os
--   set_of os s        the open set s
--   without os s       the open sets but for s
--   stepped d o        the set o with one step more, whose record is on the log drive d
--   stepping os s d    the open sets, with such a step of the set s
use Rattle.std.specs.Prelude.{ℕ, suc, Bool, false, cond, ◌||◌, List, [], ◌∷◌, ◌==◌}
use Rattle.model.specs.Store.{OpenSet}

abbrev pub no_set : OpenSet
no_set = record { number = 0; steps = 0; uses = λ _. false }

abbrev pub is_open : List OpenSet → ℕ → Bool
is_open [] s = false
is_open (o ∷ os) s = o.number == s || is_open os s

abbrev pub set_of : List OpenSet → ℕ → OpenSet
set_of [] s = no_set
set_of (o ∷ os) s = cond (o.number == s) o (set_of os s)

abbrev pub without : List OpenSet → ℕ → List OpenSet
without [] s = []
without (o ∷ os) s = cond (o.number == s) (without os s) (o ∷ without os s)

abbrev pub stepped : ℕ → OpenSet → OpenSet
stepped d o = record { number = o.number; steps = suc o.steps; uses = λ e. (e == d) || o.uses e }

abbrev pub stepping : List OpenSet → ℕ → ℕ → List OpenSet
stepping [] s d = []
stepping (o ∷ os) s d = cond (o.number == s) (stepped d o ∷ os) (o ∷ stepping os s d)
