-- The block of a commit.
use Rattle.std.proofs.Common.{◌≡◌, ℕ, ◌%◌, ◌≤◌, List, ◌++◌, length, get_or, drop, refl, ap, ◌∙◌, arith}
use Rattle.std.proofs.lemmas.List.Folds.{drop_split}
use Rattle.block.specs.Bytes.{bytes_from, zeros}
use Rattle.block.specs.Commits.{CommitOk, commit_block, commit_of, CommitShaped}
use Rattle.block.specs.declared.commits.Commit.{Commit}
use Rattle.block.proofs.Numbers.{at4_bytes4, drop_bytes_from, AllBytes, bytes4_at4, bytes4_low, at4_fits}
use Rattle.block.proofs.Zeros.{length_zeros, zeros_join, three_zeros, zero_each, part_is_zeros, tail_is_zeros, zero_tail}
use Rattle.block.proofs.Reading.{Layout}

pub length_commit_block : (c : Commit) → length (commit_block c) ≡ 512
unfolding commit_block
length_commit_block c = simp length_zeros

-- reading what was written
pub commit_of_commit_block : (c : Commit) → CommitOk c → commit_of (commit_block c) ≡ c
unfolding commit_block
commit_of_commit_block c ok =
    let r = at4_bytes4 c.round ok.round in
    let s : c.set % 256 ≡ c.set = omega arith in
    let n : c.number % 256 ≡ c.number = omega arith in
    rw (r, s, n) refl

commit_shaped : (c : Commit) → CommitOk c → CommitShaped (commit_block c)
unfolding commit_block
commit_shaped c ok =
    let s = bytes4_low c.set ok.set in
    let n = bytes4_low c.number ok.number in
    record {
      first = refl;
      before_round = zero_each _ 3 three_zeros;
      behind_set = zero_each _ 3 (ap (drop 1) s ∙ three_zeros);
      rest = zero_tail (commit_block c) 13 512 (simp length_zeros) (ap (λ x. drop 1 x ++ zeros 496) n ∙ ap (λ x. x ++ zeros 496) three_zeros ∙ zeros_join 3 496);
    }

-- writing what was read
commit_block_commit_of : (b : List ℕ) → length b ≡ 512 → AllBytes b → CommitShaped b → commit_block (commit_of b) ≡ b
unfolding commit_block
commit_block_commit_of b l small s =
    let d0 : b ≡ bytes_from b 0 1 ++ drop 1 b = drop_bytes_from b 0 1 (omega arith) in
    let d1 = drop_split b 1 4 (omega arith) in
    let d4 = drop_bytes_from b 4 5 (omega arith) in
    let d9 = drop_split b 9 12 (omega arith) in
    let d12 = drop_bytes_from b 12 1 (omega arith) in
    let z1 = part_is_zeros b 1 4 (omega arith) s.before_round in
    let z9 = part_is_zeros b 9 12 (omega arith) s.behind_set in
    let z13 = tail_is_zeros b 13 512 l s.rest in
    let j = zeros_join 3 496 in
    let z = three_zeros in
    let f = s.first in
    let r = bytes4_at4 b 4 small in
    let m = bytes4_low (get_or b 8 0) (small 8) in
    let n = bytes4_low (get_or b 12 0) (small 12) in
    cc

-- what stands in a block of bytes fits
pub commit_of_ok : (b : List ℕ) → AllBytes b → 1 ≤ (commit_of b).set → 1 ≤ (commit_of b).number → CommitOk (commit_of b)
commit_of_ok b small s n = record { round = at4_fits b 4 small; some_set = s; set = small 8; some_number = n; number = small 12 }

pub commits : Layout CommitOk commit_block commit_of CommitShaped
commits = record {
  long = λ c ok. length_commit_block c;
  back = commit_of_commit_block;
  shaped = commit_shaped;
  forth = λ b l small s ok. commit_block_commit_of b l small s;
}
