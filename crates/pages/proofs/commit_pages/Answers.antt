use Rattle.std.proofs.Common.{rules}
use Rattle.std.proofs.lemmas.List.Edits.{map_over_more}
use Rattle.pages.specs.Pages.{released}
use Rattle.pages.proofs.commit_pages.Goals as goal

pub loop-page-preserved : goal.loop-page-preserved
loop-page-preserved c = search (rules, map_over_more (released c.args.set))
