-- Which record stands in a block, and what it gives.
use Rattle.std.proofs.Common.{◌≡◌, get_or, Some, None, sym, refl, arith}
use Rattle.std.proofs.lemmas.Grind.{common_steps}
use Rattle.std.proofs.lemmas.Slice.Eq.{bytes_eq-Decides}
use Rattle.rack.specs.Meaning.{Block}
use Rattle.block.specs.Commits.{commit_block, commit_of}
use Rattle.block.specs.Readings.{commit_in}
use Rattle.block.specs.declared.commits.Commit.{Commit}
use Rattle.change.specs.Changes.{Content, change_block}
use Rattle.change.specs.Readings.{change_in}
use Rattle.model.specs.Logs.{change, record_in}

-- byte 0 tells a change from a commit
first_of_change : (v : Content) → get_or (change_block v) 0 0 ≡ 1
unfolding change_block
first_of_change v = refl

first_of_commit : (c : Commit) → get_or (commit_block c) 0 0 ≡ 2
unfolding commit_block
first_of_commit c = refl

no_commit : (v : Content) (b : Block) → change_block v ≡ b → None ≡ commit_in b
unfolding commit_in
no_commit v b e =
    let x = first_of_change v in
    let y = first_of_commit (commit_of b) in
    let d = bytes_eq-Decides (commit_block (commit_of b)) b in
    grind (arith, common_steps)

-- so a reader of changes need not look for a commit
pub only_change : (b : Block) (v : Content) → change_block v ≡ b → Some v ≡ change_in b → record_in b ≡ Some (change v)
only_change b v e f = let n = no_commit v b e in rw (sym n, sym f) refl
