use Rattle.std.proofs.Common.{rules, arith}
use Rattle.std.proofs.lemmas.Grind.{common_steps}
use Rattle.std.proofs.lemmas.List.Edits.{map_over_more}
use Rattle.pages.specs.Pages.{at_rest}
use Rattle.pages.proofs.rest_pages.Goals as goal

pub loop-page-preserved : goal.loop-page-preserved
loop-page-preserved c = (search (rules, map_over_more at_rest), grind (arith, common_steps))
