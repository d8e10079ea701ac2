-- The four parts of a format, played one after another: where each of them may stop, and where all are played.
use Rattle.std.proofs.Common.{◌≡◌, ◌-◌, List, ◌++◌, Some, None, Option, Result, subst}
use Rattle.std.specs.Result.{result_err}
use Rattle.rack.specs.declared.RackFault.{RackFault}
use Rattle.rack.specs.Meaning.{Meaning, Block}
use Rattle.block.specs.Bytes.{zeros}
use Rattle.strokes.specs.declared.Stroke.{Stroke}
use Rattle.strokes.specs.Plan.{Plays}
use Rattle.strokes.proofs.Playing.{Onto, onto_none, part_made, part_refused, last_part}
use Rattle.model.specs.Store.{Shape, shape_of}
use Rattle.model.specs.Format.{head_at, headed, wipes, blank_pages, format_plan}
use Rattle.recovery.proofs.Wiping.{wipes_shape}

module _ (z : Shape) (m : Meaning) (same : z ≡ shape_of z.pages m) where
  abbrev plan : List Stroke
  plan = format_plan z

  abbrev new_head : Block
  new_head = head_at z 1

  abbrev pub wiping : Meaning → List Stroke
  wiping k = wipes k.size 1 (k.count - 1)

  -- what is left after the first part, and after the second
  abbrev from_pages : List Stroke
  from_pages = blank_pages z.pages ++ headed new_head

  abbrev planned : List Stroke
  planned = wipes z.blocks 1 z.logs

  abbrev from_logs : List Stroke
  from_logs = planned ++ from_pages

  pub stops_zeroing : (k : Meaning) (f : RackFault) → Plays (headed (zeros 512)) m (Some f) k → Plays plan m (Some f) k
  stops_zeroing k f p = part_refused (headed (zeros 512)) plan from_logs m m k f (onto_none plan m) p

  module _ (k₁ : Meaning) (zeroed : Plays (headed (zeros 512)) m None k₁) where
    onto_logs : Onto plan m from_logs k₁
    onto_logs = part_made (headed (zeros 512)) plan from_logs m m k₁ (onto_none plan m) zeroed

    same_wiping : (r : Option RackFault) (n : Meaning) → Plays (wiping k₁) k₁ r n → Plays planned k₁ r n
    same_wiping r n p = subst (λ (w : List Stroke). Plays w k₁ r n) (wipes_shape z m k₁ same onto_logs.alike) p

    pub stops_wiping : (k : Meaning) (f : RackFault) → Plays (wiping k₁) k₁ (Some f) k → Plays plan m (Some f) k
    stops_wiping k f p = part_refused planned plan from_pages m k₁ k f onto_logs (same_wiping (Some f) k p)

    module _ (k₂ : Meaning) (wiped : Plays (wiping k₁) k₁ None k₂) where
      onto_pages : Onto plan m from_pages k₂
      onto_pages = part_made planned plan from_pages m k₁ k₂ onto_logs (same_wiping None k₂ wiped)

      pub stops_blanking : (k : Meaning) (f : RackFault) → Plays (blank_pages z.pages) k₂ (Some f) k → Plays plan m (Some f) k
      stops_blanking k f p = part_refused (blank_pages z.pages) plan (headed new_head) m k₂ k f onto_pages p

      pub ends_heading : (k₃ n : Meaning) (v : Block) (q : Result (Unit {0}) RackFault) → Plays (blank_pages z.pages) k₂ None k₃ → v ≡ new_head → Plays (headed v) k₃ (result_err q) n → Plays plan m (result_err q) n
      ends_heading k₃ n v q b e p =
          last_part (headed new_head) plan m k₃ n q (part_made (blank_pages z.pages) plan (headed new_head) m k₂ k₃ onto_pages b)
          (subst (λ (w : Block). Plays (headed w) k₃ (result_err q) n) e p)
