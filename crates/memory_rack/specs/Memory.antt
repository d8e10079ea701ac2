-- The memory rack: what the caller's memory means as a rack, and what each call makes of it.
--
--   kept_in r               what the rack r keeps
--   block_at xs i           the i-th block of the bytes xs
--   slot_at k i             the i-th block as the rack shows it
--   place_of k d b          where block b of drive d lies among all blocks, drive 0 first
--   shown k                 what the rack means
--   placed k d b            where block b of drive d lies, if the rack shows such a block
--   memory_of k d b         the bytes that the memory has for block b of drive d, readable or not
--   Makes k r               the answer r of a call that is to make a rack that keeps k
--   over xs p v             the bytes xs with v over them from p on
--   put k i p v             the i-th block with v over its bytes from p on, and readable
--   cleared k i             the i-th block made unreadable
--   struck k                one stroke fewer
--   stopped k n             what a power cut leaves, with n strokes to come
--   unless f j k            what a call leaves: j, or k where it has a fault
--   poke_fault k d b p n    why a poke of n bytes from p on, into block b of drive d, is turned down, if it is
--   poked k d b p v         what a poke of v leaves
--   tear_fault k d b        why a tear of block b of drive d is turned down, if it is
--   torn k d b              what a tear leaves
--   wrote k d b v           what a write of v leaves
--   swept k d               what a flush leaves
--   ReadsOnly m n d b o     the rack n reads as m in every block but block b of drive d, which reads as o
use Rattle.std.specs.Prelude.{◌≡◌, ℕ, ◌+◌, ◌-◌, ◌*◌, ◌<◌, true, false, cond, ◌&&◌, List, [], ◌++◌, length, take, drop, Some, None, Option, Result, MatchResult, ◌==◌, nat_le, slice_index, slice_set}
use Rattle.rack.specs.declared.RackFault.{RackFault}
use Rattle.rack.specs.declared.RackFault.TheVariants.{NoPlace, BadShape}
use Rattle.rack.specs.Meaning.{Block, Slot, Meaning, Alike, newest}
use Rattle.rack.specs.Answers.{within, write_fault, flush_fault}
use Rattle.rack.specs.Shapes.{drives_in, size_in, before}
use Rattle.memory_rack.specs.declared.MemoryRack.{MemoryRack}
pub use Rattle.memory_rack.specs.Kept.{Kept, fresh, fitting}

-- in contracts a memory rack is what it keeps; this name for it serves where the rack is a part of something
abbrev pub kept_in : MemoryRack → Kept
kept_in r = r

abbrev pub block_at : List ℕ → ℕ → Block
block_at xs i = take 512 (drop (512 * i) xs)

-- nothing is ever pending; a block with the mark 0 is unreadable
abbrev pub slot_at : Kept → ℕ → Slot
slot_at k i = record { settled = cond (slice_index k.marks i == 0) None (Some (block_at k.bytes i)); pending = [] }

abbrev pub place_of : Kept → ℕ → ℕ → ℕ
place_of k d b = before k.shape.sizes d + b

-- what does not fit shows no drives; no rack keeps such a thing, since its type says that it fits
abbrev pub shown : Kept → Meaning
shown k = record {
  count = cond (fitting k) (drives_in k.shape) 0;
  size = size_in k.shape;
  slot = λ d b. slot_at k (place_of k d b);
  left = k.left;
}

abbrev pub placed : Kept → ℕ → ℕ → Option ℕ
placed k d b = cond (within (shown k) d b) (Some (place_of k d b)) None

abbrev pub memory_of : Kept → ℕ → ℕ → Block
memory_of k d b = block_at k.bytes (place_of k d b)

-- a rack just where the memory fits the shape, and it keeps what it was given; else the fault BadShape
abbrev pub Makes : Kept → Result MemoryRack RackFault → Type 0
Makes k r = MatchResult r (λ m. (fitting k ≡ true) × (m ≡ k)) (λ f. (fitting k ≡ false) × (f ≡ BadShape))

-- the bytes before p, then v, then what lies behind
abbrev pub over : List ℕ → ℕ → List ℕ → List ℕ
over xs p v = take p xs ++ (v ++ drop (p + length v) xs)

-- the mark of a block that is made readable is 1
abbrev pub put : Kept → ℕ → ℕ → List ℕ → Kept
put k i p v = record k { bytes = over k.bytes (512 * i + p) v; marks = slice_set k.marks i 1 }

-- only the mark is cleared: the bytes stay in the memory
abbrev pub cleared : Kept → ℕ → Kept
cleared k i = record k { marks = slice_set k.marks i 0 }

abbrev pub struck : Kept → Kept
struck k = record k { left = k.left - 1 }

-- every value is settled, so every value stands
abbrev pub stopped : Kept → ℕ → Kept
stopped k n = record k { left = n }

-- a call that is turned down changes nothing
abbrev pub unless : Option RackFault → Kept → Kept → Kept
unless None j k = j
unless (Some f) j k = k

-- there is such a block, and the bytes end within it
abbrev pub poke_fault : Kept → ℕ → ℕ → ℕ → ℕ → Option RackFault
poke_fault k d b p n = cond (within (shown k) d b && nat_le (p + n) 512) None (Some NoPlace)

-- a poke takes no stroke
abbrev pub poked : Kept → ℕ → ℕ → ℕ → List ℕ → Kept
poked k d b p v = unless (poke_fault k d b p (length v)) (put k (place_of k d b) p v) k

abbrev pub tear_fault : Kept → ℕ → ℕ → Option RackFault
tear_fault k d b = cond (within (shown k) d b) None (Some NoPlace)

-- a tear takes no stroke
abbrev pub torn : Kept → ℕ → ℕ → Kept
torn k d b = unless (tear_fault k d b) (cleared k (place_of k d b)) k

-- a write is settled at once
abbrev pub wrote : Kept → ℕ → ℕ → Block → Kept
wrote k d b v = unless (write_fault (shown k) d b (length v)) (struck (put k (place_of k d b) 0 v)) k

-- a flush has nothing to settle, and takes its stroke
abbrev pub swept : Kept → ℕ → Kept
swept k d = unless (flush_fault (shown k) d) (struck k) k

-- what reads of the two racks give: the same drives, and the same in each block but one
pub record ReadsOnly (m n : Meaning) (d b : ℕ) (o : Option Block) : Type 0 where
  pub alike : Alike m n
  pub here : newest (n.slot d b) ≡ o
  pub others : (e c : ℕ) → e < m.count → c < m.size e → ((e ≡ d) × (c ≡ b) → ⊥) → newest (n.slot e c) ≡ newest (m.slot e c)
