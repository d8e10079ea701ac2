use Rattle.std.proofs.Common.{◌∙◌}
use Rattle.later.proofs.Derived.{marks_kept}
use Rattle.later.proofs.MarkRanked.is_upto.Goals as goal

pub returns : goal.returns
returns c = c.is_upto.ensures.value ∙ marks_kept.same c.args.self.now c.args.other.now
