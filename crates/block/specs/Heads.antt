-- The block of a store's head.
--
--   HeadOk h        the head h has a block: its round is 1 or more, and its numbers fit their bytes
--   head_front h    the bytes that the layout names
--   head_block h    the block of the head h
--   head_of b       the numbers that stand in b where a head has its numbers
--   HeadShaped b    b has the marks of a head, and zeros where the layout names no byte
use Rattle.std.specs.Prelude.{◌≡◌, ℕ, ◌^◌, ◌<◌, ◌≤◌, List, ◌∷◌, ◌++◌, slice_index}
use Rattle.std.specs.List.{between}
use Rattle.block.specs.Bytes.{bytes2, bytes4, at2, at4, zeros, AllZero}
use Rattle.block.specs.declared.Head.{Head}

-- this is no more than the layout says: how many pages and log drives a store may have is not asked here
pub record HeadOk (h : Head) : Type 0 where
  pub begun : 1 ≤ h.round
  pub pages : h.pages < 2 ^ 16
  pub round : h.round < 2 ^ 32
  pub logs : h.logs < 2 ^ 16

-- byte 0 is 3 and byte 1 is 1; bytes 2 and 3 are the page count, 4 to 7 the round, 8 and 9 the count of log drives
abbrev pub head_front : Head → List ℕ
head_front h = 3 ∷ 1 ∷ (bytes2 h.pages ++ (bytes4 h.round ++ bytes2 h.logs))

-- bytes 10 to 511 are zero
unfoldable pub head_block : Head → List ℕ
head_block h = head_front h ++ zeros 502

abbrev pub head_of : List ℕ → Head
head_of b = record { pages = at2 b 2; round = at4 b 4; logs = at2 b 8 }

pub record HeadShaped (b : List ℕ) : Type 0 where
  pub first : slice_index b 0 ≡ 3
  pub second : slice_index b 1 ≡ 1
  pub rest : AllZero (between 10 512 b)
