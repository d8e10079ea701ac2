use Rattle.std.proofs.Common.{◌≡◌, ◌+◌, ◌-◌, arith}
use Rattle.block.specs.Bytes.{zeros}
use Rattle.recovery.proofs.blank_pages.Goals as goal

pub returns : goal.returns
unfolding zeros
returns g c = let e : c.pages.result + 1 - 1 ≡ c.args.frame.now.pages = omega (arith, c.pages.ensures.value) in rw (e, c.page_block.ensures.value) at c.settle_run.ensures
