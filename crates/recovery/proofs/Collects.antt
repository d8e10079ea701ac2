-- What collect does, from what its checks and its scan of the log gave.
use Rattle.std.proofs.Common.{◌≡◌, ℕ, ◌≤◌, Bool, true, false, not, ◌&&◌, ◌||◌, eqb, ltb, leb, List, None, Ok, Err, Option, refl, ap, ◌∙◌}
use Rattle.rack.specs.Answers.{answer}
use Rattle.rack.specs.Meaning.{Meaning}
use Rattle.later.specs.declared.Mark.{Mark}
use Rattle.later.specs.Keeping.{kept_all}
use Rattle.logs.specs.declared.Log.{Log}
use Rattle.logs.specs.Scans.{some_ill, ok_unless, commits_in}
use Rattle.model.specs.declared.Refusal.{Refusal}
use Rattle.model.specs.declared.Refusal.TheVariants.{BadLog, BadRecord}
use Rattle.model.specs.Store.{Collecting, collecting}
use Rattle.model.specs.Outcome.{refused, number, Does}
use Rattle.model.specs.Recovery.{when, or_else, is_log, also_taken, untaken, collect_fault, collect_of}
use Rattle.model.proofs.Doing.{does_refused, does_still}
use Rattle.recovery.specs.Views.{log_in}
use Rattle.model.proofs.Passing.{passed}
use Rattle.recovery.proofs.Refusing.{fault_at, none_at}
use Rattle.recovery.proofs.Taking.{also_taken_lem}

ill_at : (t : Bool) (f : Refusal) → Err f ≡ ok_unless t → (t ≡ true) × (f ≡ BadRecord)
ill_at true f e = (refl, cc)
ill_at false f e = cc

well_at : (t : Bool) → Ok tt ≡ ok_unless t → t ≡ false
well_at true e = cc
well_at false e = refl

module _ (c : Collecting) (ks : List Mark) (d : ℕ) (m : Meaning) where
  pub does_not_collect : (f : Refusal) → Err f ≡ answer (collect_fault c d m) → Does (collect_of c ks d m) (collecting c ks) m (refused f) (collecting c ks) m
  unfolding collect_of
  does_not_collect f e = does_refused (collect_of c ks d m) (collecting c ks) m f (ap (λ (o : Option Refusal). or_else o (when (some_ill (log_in c d) m) BadRecord None)) (fault_at _ f e))

  module _ (fine : Ok tt ≡ answer (collect_fault c d m)) (log : Log) (is : log ≡ log_in c d) where
    -- with nothing against the log, what stands on it decides
    fault_is : (t : Bool) → or_else (collect_fault c d m) (when t BadRecord None) ≡ when t BadRecord None
    fault_is t = ap (λ (o : Option Refusal). or_else o (when t BadRecord None)) (none_at _ _ fine)

    pub does_ill : (f : Refusal) → Err f ≡ ok_unless (some_ill log m) → Does (collect_of c ks d m) (collecting c ks) m (refused f) (collecting c ks) m
    unfolding collect_of
    does_ill f e =
        let ill = ill_at (some_ill log m) f e in
        let some : some_ill (log_in c d) m ≡ true = rw is at ill.0 in
        rw ill.1 (does_refused (collect_of c ks d m) (collecting c ks) m BadRecord (fault_is _ ∙ ap (λ (t : Bool). when t BadRecord None) some))

    pub does_collect : c.shape.logs ≤ 8 → Ok tt ≡ ok_unless (some_ill log m) → (numbers : List ℕ) → numbers ≡ kept_all leb c.numbers (commits_in log m) →
        (taken : ℕ → Bool) → ((e : ℕ) → taken e ≡ ((eqb e d && ltb d 16) || c.taken e)) → (n : ℕ) → n ≡ untaken c.shape taken →
        Does (collect_of c ks d m) (collecting c ks) m (number n) (collecting (record { shape = c.shape; round = c.round; numbers = numbers; taken = taken }) ks) m
    unfolding collect_of
    does_collect few e numbers kept taken adds n left =
        let none : some_ill (log_in c d) m ≡ false = rw is at (well_at (some_ill log m) e) in
        let more : taken ≡ also_taken c.taken d = also_taken_lem c.shape d c.taken taken few (passed (not (is_log c.shape d && not (c.taken d))) BadLog _ (none_at (collect_fault c d m) _ fine)).0 adds in
        does_still (collect_of c ks d m) (collecting c ks) m _ _ (fault_is _ ∙ ap (λ (t : Bool). when t BadRecord None) none) refl (rw (left, more) refl) (rw (kept, is, more) refl)
