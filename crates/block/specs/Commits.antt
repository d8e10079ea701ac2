-- The block of a commit.
--
--   CommitOk c        the commit c has a block: its set and its number are 1 to 255, and its round fits its bytes
--   commit_front c    the bytes up to the last that the layout names
--   commit_block c    the block of the commit c
--   commit_of b       the numbers that stand in b where a commit has its numbers
--   CommitShaped b    b has the mark of a commit, and zeros where a commit has them
use Rattle.std.specs.Prelude.{◌≡◌, ℕ, ◌^◌, ◌<◌, ◌≤◌, List, ◌∷◌, ◌++◌, slice_index}
use Rattle.std.specs.List.{between}
use Rattle.block.specs.Bytes.{bytes4, at4, zeros, AllZero}
use Rattle.block.specs.declared.commits.Commit.{Commit}

pub record CommitOk (c : Commit) : Type 0 where
  pub round : c.round < 2 ^ 32
  pub some_set : 1 ≤ c.set
  pub set : c.set < 256
  pub some_number : 1 ≤ c.number
  pub number : c.number < 256

-- byte 0 is 2; bytes 4 to 7 are the round, 8 to 11 the set, 12 to 15 the number
abbrev pub commit_front : Commit → List ℕ
commit_front c = 2 ∷ 0 ∷ 0 ∷ 0 ∷ (bytes4 c.round ++ (bytes4 c.set ++ bytes4 c.number))

-- bytes 16 to 511 are zero
unfoldable pub commit_block : Commit → List ℕ
commit_block c = commit_front c ++ zeros 496

-- set and number are the low bytes of theirs
abbrev pub commit_of : List ℕ → Commit
commit_of b = record { round = at4 b 4; set = slice_index b 8; number = slice_index b 12 }

-- the high bytes of set and number are zero, since these are below 256
pub record CommitShaped (b : List ℕ) : Type 0 where
  pub first : slice_index b 0 ≡ 2
  pub before_round : AllZero (between 1 4 b)
  pub behind_set : AllZero (between 9 12 b)
  pub rest : AllZero (between 13 512 b)
