use Rattle.std.proofs.Common.{refl, rules}
use Rattle.change.specs.Changes.{view}
use Rattle.change.proofs.ReadAs.{change_is}
use Rattle.logs.proofs.Records.{only_change}
use Rattle.logs.proofs.read_change.Goals as goal

pub returns-in_err-change : goal.returns-in_err-change
returns-in_err-change c =
    let e = change_is c.args.bytes.now c.fits-bytes _ c.in_err-change.ensures in
    search rules

pub returns : goal.returns
returns c =
    let b = c.args.bytes.now in
    let told = c.in_ok-change.ensures in
    let is = (told (view c.in_ok-change.change)).0 refl in
    let e = only_change b (view c.in_ok-change.change) is.1 (change_is b c.fits-bytes _ told) in
    search rules
