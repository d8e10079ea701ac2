-- What turn does, where every log is taken.
use Rattle.std.proofs.Common.{◌≡◌, ℕ, Bool, false, not, eqb, List, replicate, None, Ok, refl, ap}
use Rattle.rack.specs.Meaning.{Meaning}
use Rattle.rack.specs.Answers.{answer}
use Rattle.later.specs.declared.Mark.{Mark}
use Rattle.model.specs.declared.Refusal.TheVariants.{BadLog}
use Rattle.model.specs.Store.{Collecting, collecting, applying}
use Rattle.model.specs.Outcome.{number, Does}
use Rattle.model.specs.Recovery.{when, untaken, committed, turning}
use Rattle.model.proofs.Doing.{does_still}
use Rattle.recovery.proofs.Refusing.{none_at}

module _ (c : Collecting) (ks : List Mark) (m : Meaning) (fine : Ok tt ≡ answer (when (not (eqb (untaken c.shape c.taken) 0)) BadLog None)) where
  pub does_turn : (sets : ℕ) → sets ≡ committed c.numbers → (taken : ℕ → Bool) → ((d : ℕ) → taken d ≡ false) → (named : List Bool) → named ≡ replicate 64 false →
      Does (turning c ks) (collecting c ks) m (number sets) (applying (record { shape = c.shape; round = c.round; numbers = c.numbers; taken = taken; pages = named }) ks) m
  unfolding turning
  does_turn sets counted taken none named blank =
      does_still (turning c ks) (collecting c ks) m _ _ (none_at _ _ fine) refl (ap number counted)
      (λ i. applying (record { shape = c.shape; round = c.round; numbers = c.numbers; taken = λ d. none d i; pages = blank i }) ks)
