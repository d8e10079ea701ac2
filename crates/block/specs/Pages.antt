-- The block of a page: the content in bytes 0 to 239, and a tail that is zero when written and ignored when read.
--
--   page_block c      the block of a page with the content c, of 240 bytes
--   page_content b    the content of the page in the block b
--   GivesBack c b     the block b reads as the content c, and would whatever its tail were
use Rattle.std.specs.Prelude.{◌≡◌, ℕ, List, ◌++◌, take}
use Rattle.block.specs.Bytes.{zeros}

abbrev pub page_block : List ℕ → List ℕ
page_block c = c ++ zeros 272

abbrev pub page_content : List ℕ → List ℕ
page_content b = take 240 b

-- every block that agrees with b in bytes 0 to 239 reads as c: so b does, and the tail does not count
abbrev pub GivesBack : List ℕ → List ℕ → Type 0
GivesBack c b = (other : List ℕ) → take 240 other ≡ take 240 b → page_content other ≡ c
