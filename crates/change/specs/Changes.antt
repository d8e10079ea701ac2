-- The block of a change.
--
--   Content                what a change says: its page, round, set and step, the pairs, and the bytes in the runs of
--                          the pairs, joined, as they were before and as they are after
--   ChangeOk v             the content v has a block
--   change_head v          bytes 0 to 15 of that block
--   slot_bytes ps          bytes 16 to 31 of it: the pairs, and zeros where there are fewer than four
--   change_block v         the block of a change with the content v
--   Writes v r             r is the block of v, or nothing where v has no block
--   content_with b ps t    the content that stands in b where the pairs are ps and have t bytes in all
--   pairs_of b             the pairs that stand in b where a change has its pairs
--   content_of b           the content that stands in b where a change has its content
--   Marked b               b has the mark and a count of a change, and zeros where a change has them before byte 32
--   ChangeShaped b         the same, and zeros behind the bytes from before and after
--   view c                 the content of the change c
use Rattle.std.specs.Prelude.{◌≡◌, ℕ, ◌+◌, ◌-◌, ◌*◌, ◌^◌, ◌<◌, ◌≤◌, true, List, ◌∷◌, ◌++◌, length, Option, MatchOption, slice_index}
use Rattle.std.specs.List.{flat_map, between}
use Rattle.block.specs.Bytes.{bytes2, bytes4, at2, at4, zeros, AllZero}
use Rattle.change.specs.Held.{listed}
use Rattle.change.specs.Pairs.{well_paired, total, pair_bytes, pairs_in}
use Rattle.change.specs.declared.runs.Pair.{Pair}
use Rattle.change.specs.declared.Change.{Change}

pub record Content : Type 0 where
  pub page : ℕ
  pub round : ℕ
  pub set : ℕ
  pub step : ℕ
  pub pairs : List Pair
  pub before : List ℕ
  pub after : List ℕ

-- this is no more than the layout says: whether the page exists and the round is the store's is not asked here
pub record ChangeOk (v : Content) : Type 0 where
  pub page : v.page < 2 ^ 16
  pub round : v.round < 2 ^ 32
  pub some_set : 1 ≤ v.set
  pub set : v.set < 256
  pub some_step : 1 ≤ v.step
  pub step : v.step < 2 ^ 32
  pub paired : well_paired v.pairs ≡ true
  pub before : length v.before ≡ total v.pairs
  pub after : length v.after ≡ total v.pairs

-- byte 0 is 1 and byte 1 the count of pairs; bytes 2 and 3 are the page, 4 to 7 the round, 8 to 11 the set, 12 to 15
-- the step
abbrev pub change_head : Content → List ℕ
change_head v = 1 ∷ length v.pairs ∷ (bytes2 v.page ++ (bytes4 v.round ++ (bytes4 v.set ++ bytes4 v.step)))

abbrev pub slot_bytes : List Pair → List ℕ
slot_bytes ps = flat_map pair_bytes ps ++ zeros (16 - 4 * length ps)

-- the bytes from before stand from byte 32 on, the bytes from after behind them, and the rest is zero
unfoldable pub change_block : Content → List ℕ
change_block v = change_head v ++ (slot_bytes v.pairs ++ (v.before ++ (v.after ++ zeros (480 - 2 * total v.pairs))))

abbrev pub Writes : Content → Option (List ℕ) → Type 0
Writes v r = MatchOption r (ChangeOk v → ⊥) (λ b. ChangeOk v × (b ≡ change_block v))

abbrev pub content_with : List ℕ → List Pair → ℕ → Content
content_with b ps t = record { page = at2 b 2; round = at4 b 4; set = slice_index b 8; step = at4 b 12; pairs = ps; before = between 32 (32 + t) b; after = between (32 + t) (32 + 2 * t) b }

-- byte 1 counts the pairs in bytes 16 to 31
abbrev pub pairs_of : List ℕ → List Pair
pairs_of b = pairs_in (slice_index b 1) (between 16 32 b)

unfoldable pub content_of : List ℕ → Content
content_of b = content_with b (pairs_of b) (total (pairs_of b))

pub record Marked (b : List ℕ) : Type 0 where
  pub first : slice_index b 0 ≡ 1
  pub few : slice_index b 1 ≤ 4
  pub behind_set : AllZero (between 9 12 b)
  pub behind_pairs : AllZero (between (16 + 4 * slice_index b 1) 32 b)

pub record ChangeShaped (b : List ℕ) : Type 0 where
  pub marked : Marked b
  pub rest : AllZero (between (32 + 2 * total (pairs_of b)) 512 b)

abbrev pub view : Change → Content
view c = record { page = c.page; round = c.round; set = c.set; step = c.step; pairs = listed c.pairs; before = c.before.now; after = c.after.now }
