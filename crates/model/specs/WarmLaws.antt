-- Laws of a warm store, in the subject's words, above the outcomes of Warming; no call promises them yet.
--
--   Edit               a change that a set asks for: of a page, by pairs and their new bytes joined
--   after w e          the store w once the change e was answered
--   Answers w es v     the changes es, by whatever sets, were asked for one after the other and all answered, which led from w to v
--   own s p es c       the content c with the changes among es that set s made of page p, in their order
--   ReadsOwnChanges    what a set reads of a page is its own changes over what it read before; others do not show
--   OneHolder          once a set has changed a page, no change of it by another set is answered
--   AlwaysRoom         an open set finds a free block for the record of its commit
use Rattle.std.specs.Prelude.{◌≡◌, ℕ, ◌<◌, ◌≤◌, true, cond, ◌&&◌, List, [], ◌∷◌, length, None, ◌==◌}
use Rattle.rack.specs.Meaning.{Meaning}
use Rattle.change.specs.declared.runs.Pair.{Pair}
use Rattle.change.specs.Edits.{overlaid}
use Rattle.later.specs.Keeping.{Among}
use Rattle.model.specs.Store.{Warm}
use Rattle.model.specs.Sets.{is_open}
use Rattle.model.specs.Room.{free, home}
use Rattle.model.specs.Warming.{change_fault, with_change, shown_to}
use Rattle.model.specs.Consistent.{Consistent}

pub record Edit : Type 0 where
  pub set : ℕ
  pub page : ℕ
  pub pairs : List Pair
  pub bytes : List ℕ

abbrev pub after : Warm → Edit → Warm
after w e = with_change w e.set e.page e.pairs e.bytes

-- m: the rack that was lent to the change
abbrev pub Answers : Warm → List Edit → Warm → Type 0
Answers w [] v = v ≡ w
Answers w (e ∷ es) v = ((m : Meaning) × (change_fault w e.set e.page e.pairs (length e.bytes) m ≡ None)) × Answers (after w e) es v

abbrev pub own : ℕ → ℕ → List Edit → List ℕ → List ℕ
own s p [] c = c
own s p (e ∷ es) c = own s p es (cond (e.set == s && e.page == p) (overlaid e.pairs e.bytes c) c)

-- a set that holds nothing reads what is committed, and so does a reader that is no set
abbrev pub ReadsOwnChanges : Type 0
ReadsOwnChanges = (w v : Warm) (es : List Edit) (s p : ℕ) → Consistent w → Answers w es v → shown_to v s p ≡ own s p es (shown_to w s p)

abbrev pub OneHolder : Type 0
OneHolder = (w v : Warm) (e f : Edit) (es : List Edit) → Consistent w → Answers w (e ∷ es) v → Among f es → f.page ≡ e.page → f.set ≡ e.set

abbrev pub AlwaysRoom : Type 0
AlwaysRoom =
    (w : Warm) (s : ℕ) → Consistent w → is_open w.sets s ≡ true →
    (length w.sets ≤ free w) × (1 ≤ home w) × (home w ≤ w.shape.logs) × (w.filled (home w) < w.shape.blocks (home w))
