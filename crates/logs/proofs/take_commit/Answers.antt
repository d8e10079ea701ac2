use Rattle.std.proofs.Common.{rules}
use Rattle.block.proofs.ReadAs.{commit_is}
use Rattle.logs.proofs.take_commit.Goals as goal

pub returns-in-Some : goal.returns-in-Some
returns-in-Some c =
    let e = commit_is c.args.bytes.now c.fits-bytes _ c.in-Some.ensures in
    let k = c.keep_later.ensures.after in
    search rules

pub returns-in-None : goal.returns-in-None
returns-in-None c =
    let e = commit_is c.args.bytes.now c.fits-bytes _ c.in_default.ensures in
    search rules
