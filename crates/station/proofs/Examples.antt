-- The examples are computed.
use Rattle.std.proofs.Common.{refl}
use Rattle.block.specs.Bytes.{zeros}
use Rattle.block.specs.Commits.{commit_block}
use Rattle.change.specs.Changes.{change_block}
use Rattle.station.specs.Examples.{WorkedExamples}

pub worked_examples : WorkedExamples
unfolding change_block commit_block zeros
worked_examples = record {
  good_pairs = (refl, refl, refl);
  bad_pairs = (refl, refl, refl, refl);
  the_change_block = refl;
  the_commit_block = refl;
  later_commit = (refl, refl);
  undone = refl;
  later_step = (refl, refl);
}
