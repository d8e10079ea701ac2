-- The cut rule: what may stand after a stop.
--
--   CutSlot d s t    the slot t may stand after a stop where s was, on drive d
--   Cut m n          the rack n may stand after a stop of the rack m, with any count of strokes left
use Rattle.std.specs.Prelude.{◌≡◌, ℕ, ◌<◌, List, [], ◌∷◌, ◌++◌, Some, None}
use Rattle.rack.specs.Meaning.{Block, Slot, Meaning, Alike}

-- each block, by its own chance, keeps its settled value or holds any value written since;
-- on a log drive a block with a pending value may be unreadable instead
pub data CutSlot (d : ℕ) (s t : Slot) : Type 0 where
  keeps : t.settled ≡ s.settled → CutSlot d s t
  lands : (before : List Block) (v : Block) (after : List Block) → s.pending ≡ before ++ (v ∷ after) → t.settled ≡ Some v → CutSlot d s t
  tears : (v : Block) (vs : List Block) → 0 < d → s.pending ≡ v ∷ vs → t.settled ≡ None → CutSlot d s t

-- what stands is settled, and nothing is pending
pub record Cut (m n : Meaning) : Type 0 where
  pub alike : Alike m n
  pub slot : (d b : ℕ) → d < m.count → b < m.size d → CutSlot d (m.slot d b) (n.slot d b)
  pub still : (d b : ℕ) → d < m.count → b < m.size d → (n.slot d b).pending ≡ []
