use Rattle.std.proofs.Common.{rules, ◌≡◌, ℕ, suc, ◌<◌, Bool, true, eqb}
use Rattle.std.specs.Bool.{Decides}
use Rattle.std.proofs.iter.runs.Sources.{ranges}
use Rattle.std.proofs.lemmas.Bool.Decides.{same_from_decides}
use Rattle.model.specs.Store.{every}
use Rattle.frame.specs.Frames.{shape_in}
use Rattle.frame.proofs.Every.{Decides-every}
use Rattle.frame.proofs.Frame.sizes_fit.Goals as goal

pub returns : goal.returns
returns g c =
    let m = g.R.Rack.meaning c.args.rack.now in
    let z = shape_in c.args.self.now in
    let f : ℕ → Bool = λ d. eqb (m.size d) (z.blocks d) in
    let told : Decides c.all.result ((d : ℕ) → d < suc z.logs → f d ≡ true) = (search (rules, ranges), search (rules, ranges)) in
    same_from_decides c.all.result (every f (suc z.logs)) told (Decides-every f (suc z.logs))
