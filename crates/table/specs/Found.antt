-- The bytes of the pages among the marks of recovery.
--
--   mark_bytes ks         the bytes of the marks ks
--   page_bytes ks p       the 240 bytes of page p among the marks ks; where the marks end, zeros follow
--   table_bytes n ks p    the bytes in a table for page p of a store of n pages; zeros for a page that it does not have
use Rattle.std.specs.Prelude.{ℕ, ◌*◌, cond, List, ◌++◌, map, take, drop, nat_lt}
use Rattle.block.specs.Bytes.{zeros}
use Rattle.later.specs.declared.Mark.{Mark}

abbrev pub mark_bytes : List Mark → List ℕ
mark_bytes ks = map (λ k. k.byte) ks

-- the bytes of page p begin at place p * 240
unfoldable pub page_bytes : List Mark → ℕ → List ℕ
page_bytes ks p = take 240 (drop (p * 240) (mark_bytes ks) ++ zeros 240)

abbrev pub table_bytes : ℕ → List Mark → ℕ → List ℕ
table_bytes n ks p = cond (nat_lt p n) (page_bytes ks p) (zeros 240)
