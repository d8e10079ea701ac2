-- What open does, from what it has found.
use Rattle.std.proofs.Common.{◌≡◌, ℕ, List, Some, Option, sym, refl, ap, ◌∙◌}
use Rattle.rack.specs.Meaning.{Meaning}
use Rattle.block.specs.declared.Head.{Head}
use Rattle.later.specs.declared.Mark.{Mark}
use Rattle.model.specs.Store.{Collecting, cold, collecting}
use Rattle.model.specs.Outcome.{number, Does}
use Rattle.model.specs.Recovery.{open_fault, opened, round_reply, drive_marks, opening}
use Rattle.model.proofs.Doing.{does_still}
use Rattle.recovery.specs.Found.{Found}

pub does_open : (m : Meaning) (k : ℕ) (c : Collecting) (found : Found m k c) (ks : List Mark) → ks ≡ drive_marks m found.head.pages → Does (opening k m) cold m (number c.round) (collecting c ks) m
unfolding opening
does_open m k c found ks marks =
    let same : collecting c ks ≡ opened (Some found.head) m =
    λ i. collecting (record { shape = found.shape i; round = found.round i; numbers = found.numbers i; taken = λ d. found.taken d i }) (marks i) in
    does_still (opening k m) cold m _ _ (ap (λ (h : Option Head). open_fault h k m) found.stands ∙ found.fine) refl
    (ap number found.round ∙ sym (ap round_reply found.stands))
    (same ∙ sym (ap (λ (h : Option Head). opened h m) found.stands))
