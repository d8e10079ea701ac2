-- What apply does, from what its checks and its scan of the log gave.
use Rattle.std.proofs.Common.{◌≡◌, ℕ, ◌≤◌, Bool, not, ◌&&◌, ◌||◌, eqb, ltb, List, length, None, Ok, refl}
use Rattle.rack.specs.Meaning.{Meaning}
use Rattle.rack.specs.Answers.{answer}
use Rattle.later.specs.declared.Mark.{Mark}
use Rattle.later.specs.Keeping.{kept_all}
use Rattle.later.specs.Stamps.{mark_upto}
use Rattle.logs.specs.declared.Log.{Log}
use Rattle.logs.specs.Scans.{offers_in, named_in}
use Rattle.model.specs.declared.Refusal.TheVariants.{BadLog}
use Rattle.model.specs.Store.{Applying, applying}
use Rattle.model.specs.Outcome.{number, Does}
use Rattle.model.specs.Recovery.{is_log, also_taken, untaken, marked, apply_fault, apply_of}
use Rattle.model.proofs.Doing.{does_still}
use Rattle.model.proofs.Passing.{passed}
use Rattle.recovery.proofs.Refusing.{none_at}
use Rattle.recovery.proofs.Taking.{also_taken_lem}

module _ (a : Applying) (ks : List Mark) (d : ℕ) (m : Meaning) where
  pub does_apply : a.shape.logs ≤ 8 → Ok tt ≡ answer (apply_fault a (length ks) d m) → (log : Log) → log ≡ record { drive = d; blocks = a.shape.blocks d; round = a.round; pages = a.shape.pages } →
      (marks : List Mark) → marks ≡ kept_all mark_upto ks (offers_in log a.numbers m) → (named : List Bool) → named ≡ marked (named_in log m) a.pages →
      (taken : ℕ → Bool) → ((e : ℕ) → taken e ≡ ((eqb e d && ltb d 16) || a.taken e)) → (n : ℕ) → n ≡ untaken a.shape taken →
      Does (apply_of a ks d m) (applying a ks) m (number n) (applying (record { shape = a.shape; round = a.round; numbers = a.numbers; taken = taken; pages = named }) marks) m
  unfolding apply_of
  does_apply few fine log is marks kept named noted taken adds n left =
      let none : apply_fault a (length ks) d m ≡ None = none_at _ _ fine in
      let more : taken ≡ also_taken a.taken d = also_taken_lem a.shape d a.taken taken few (passed (not (is_log a.shape d && not (a.taken d))) BadLog _ none).0 adds in
      does_still (apply_of a ks d m) (applying a ks) m _ _ none refl (rw (left, more) refl) (rw (kept, noted, is, more) refl)
