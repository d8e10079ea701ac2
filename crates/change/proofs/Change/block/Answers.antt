use Rattle.std.proofs.Common.{map, refl, ap, ◌∙◌}
use Rattle.change.specs.Pairs.{slots_of, pair_bytes}
use Rattle.change.specs.Changes.{view}
use Rattle.change.proofs.ChangeLaws.{assembled_is}
use Rattle.change.proofs.Change.block.Goals as goal

pub returns : goal.returns
returns c =
    let ok = c.if-not-is_sound.ensures.0 refl in
    let slots = c.slot_bytes.ensures ∙ ap (λ ps. map pair_bytes (slots_of ps)) c.pairs.ensures.value in
    (ok, assembled_is (view c.args.self.now) ok c.assembled.result c.head.result c.slot_bytes.result c.assembled.ensures c.head.ensures slots)
