-- What a block reads as, by one definition for all kinds of blocks.
--
--   read_as ok block of b    the value whose block b is, if there is one: `of` takes a value from where it stands in b,
--                            `ok` says whether it may be written, and `block` writes it
--   head_in b                the head whose block b is
--   commit_in b              the commit whose block b is
use Rattle.std.specs.Prelude.{ℕ, Bool, cond, ◌&&◌, List, length, Some, None, Option, ◌==◌, nat_le}
use Rattle.std.specs.Str.{bytes_eq}
use Rattle.block.specs.Heads.{head_block, head_of}
use Rattle.block.specs.Commits.{commit_block, commit_of}
use Rattle.block.specs.declared.Head.{Head}
use Rattle.block.specs.declared.commits.Commit.{Commit}

abbrev pub read_as : {C : Type 0} → (C → Bool) → (C → List ℕ) → (List ℕ → C) → List ℕ → Option C
read_as ok block of b = cond (length b == 512 && (ok (of b) && bytes_eq (block (of b)) b)) (Some (of b)) None

-- a round of 1 or more
abbrev pub head_fine : Head → Bool
head_fine h = nat_le 1 h.round

unfoldable pub head_in : List ℕ → Option Head
head_in b = read_as head_fine head_block head_of b

-- a set and a number of 1 or more
abbrev pub commit_fine : Commit → Bool
commit_fine c = nat_le 1 c.set && nat_le 1 c.number

unfoldable pub commit_in : List ℕ → Option Commit
commit_in b = read_as commit_fine commit_block commit_of b
