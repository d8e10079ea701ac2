-- What holds of all plans.
--
--   PlansCompose    one plan after another is their joined plan; one that ran out goes no further
--   PlansShow       what can be read after a plan is what the plan wrote there last, whatever settled early
use Rattle.std.specs.Prelude.{◌≡◌, ℕ, ◌<◌, List, ◌++◌, Some, None, Option}
use Rattle.rack.specs.declared.RackFault.{RackFault}
use Rattle.rack.specs.Meaning.{Meaning, newest}
use Rattle.strokes.specs.declared.Stroke.{Stroke}
use Rattle.strokes.specs.Plan.{Strokes, Done, shows}

abbrev pub PlansCompose : Type 0
PlansCompose = (xs ys : List Stroke) (m k n : Meaning) (r : Option RackFault) (f : RackFault) →
    (Done xs m None k → Done ys k r n → Done (xs ++ ys) m r n) × (Done xs m (Some f) k → Done (xs ++ ys) m (Some f) k)

abbrev pub PlansShow : Type 0
PlansShow = (ss : List Stroke) (m n : Meaning) (d b : ℕ) → d < m.count → b < m.size d → Strokes ss m n →
    newest (n.slot d b) ≡ shows ss d b (newest (m.slot d b))
