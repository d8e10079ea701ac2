-- What a rack means, and what a stroke makes of it.
--
--   Block              the bytes of a block
--   Slot               a block of the rack: its settled value, and the values written since, oldest first
--   Meaning            a rack: its drives, their blocks, and the strokes left
--   newest s           what a read of the slot gives: the last value written, or else the settled one
--   more s vs          the slot with these values written too
--   calm s             the slot with its newest value settled and nothing pending
--   written m d b v    the rack m after a write of v to block b of drive d
--   flushed m d        the rack m after a flush of drive d
--   Settles s t        the slot t is s with some of its oldest pending values settled, in their order
--   Alike m n          the racks have the same drives with as many blocks
--   Early m n          the rack n is m with some values settled early; nothing else differs
--   Stands m d b v     block b of drive d holds v, settled, and nothing is pending there
use Rattle.std.specs.Prelude.{◌≡◌, ℕ, ◌-◌, ◌<◌, cond, ◌&&◌, List, [], ◌∷◌, ◌++◌, Some, Option, ◌==◌}

abbrev pub Block : Type 0
Block = List ℕ

-- None where the block cannot be read
pub record Slot : Type 0 where
  pub settled : Option Block
  pub pending : List Block

-- slots and sizes count only where there is such a drive and block
pub record Meaning : Type 0 where
  pub count : ℕ
  pub size : ℕ → ℕ
  pub slot : ℕ → ℕ → Slot
  pub left : ℕ

-- the last value of a list, or o where it is empty
abbrev pub last_or : Option Block → List Block → Option Block
last_or o [] = o
last_or o (v ∷ vs) = last_or (Some v) vs

abbrev pub newest : Slot → Option Block
newest s = last_or s.settled s.pending

abbrev pub more : Slot → List Block → Slot
more s vs = record { settled = s.settled; pending = s.pending ++ vs }

abbrev pub calm : Slot → Slot
calm s = record { settled = newest s; pending = [] }

-- a write takes a stroke and adds a value to one block
abbrev pub written : Meaning → ℕ → ℕ → Block → Meaning
written m d b v = record {
  count = m.count;
  size = m.size;
  slot = λ e k. cond (e == d && k == b) (more (m.slot e k) (v ∷ [])) (m.slot e k);
  left = m.left - 1;
}

-- a flush takes a stroke and settles the newest value of each block of one drive
abbrev pub flushed : Meaning → ℕ → Meaning
flushed m d = record {
  count = m.count;
  size = m.size;
  slot = λ e k. cond (e == d) (calm (m.slot e k)) (m.slot e k);
  left = m.left - 1;
}

pub record Settles (s t : Slot) : Type 0 where
  pub gone : List Block
  pub parts : s.pending ≡ gone ++ t.pending
  pub stands : t.settled ≡ last_or s.settled gone

pub record Alike (m n : Meaning) : Type 0 where
  pub count : n.count ≡ m.count
  pub size : (d : ℕ) → n.size d ≡ m.size d

-- the one thing that the interface leaves free
pub record Early (m n : Meaning) : Type 0 where
  pub alike : Alike m n
  pub slot : (d b : ℕ) → d < m.count → b < m.size d → Settles (m.slot d b) (n.slot d b)
  pub left : n.left ≡ m.left

pub record Stands (m : Meaning) (d b : ℕ) (v : Block) : Type 0 where
  pub settled : (m.slot d b).settled ≡ Some v
  pub nothing_pending : (m.slot d b).pending ≡ []
