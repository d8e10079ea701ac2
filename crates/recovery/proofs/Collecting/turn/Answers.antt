use Rattle.std.proofs.Common.{refl}
use Rattle.model.specs.Recovery.{turning}
use Rattle.recovery.specs.Views.{collecting_in}
use Rattle.recovery.proofs.Refusing.{refuses}
use Rattle.recovery.proofs.Turns.{does_turn}
use Rattle.recovery.proofs.Collecting.turn.Goals as goal

pub returns-in-Err : goal.returns-in-Err
unfolding turning
returns-in-Err c = λ ks m. refuses _ _ m _ c.in-Err.ensures

pub returns : goal.returns
returns c = λ ks m. does_turn (collecting_in c.args.self) ks m c.in_default.ensures _ c.count_committed-sets.ensures _ c.empty.ensures _ refl
