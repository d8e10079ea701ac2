-- What format does, from how its strokes were played.
use Rattle.std.proofs.Common.{◌≡◌, ℕ, true, Some, None, Ok, Err, Option, Result}
use Rattle.std.specs.Result.{MatchResult, IsErrAnd, result_err}
use Rattle.std.specs.Option.{ok_or}
use Rattle.rack.specs.declared.RackFault.{RackFault}
use Rattle.rack.specs.Meaning.{Meaning}
use Rattle.strokes.specs.Plan.{Plays}
use Rattle.frame.specs.declared.Frame.{Frame}
use Rattle.frame.specs.Frames.{Framed}
use Rattle.model.specs.declared.Refusal.{Refusal}
use Rattle.model.specs.declared.Refusal.TheVariants.{OutOfStrokes, BadShape}
use Rattle.model.specs.Store.{Shape, shape_of, legal, cold}
use Rattle.model.specs.Outcome.{refused, Does, reply_of}
use Rattle.model.specs.Format.{formatting, format_plan, IfFormatted}
use Rattle.model.proofs.Doing.{does_refused, does_all, does_short, all_strokes}
use Rattle.model.proofs.Formatting.{legal_has, placed_format, formatted}

pub record Formats (pages : ℕ) (m n : Meaning) (q : Result (Unit {0}) Refusal) : Type 0 where
  pub does : Does (formatting pages m) cold m (reply_of q) cold n
  pub stands : IfFormatted (reply_of q) (shape_of pages m) m n

-- there is a frame exactly where the shape is legal
pub at_frame : (z : Shape) (o : Option Frame) (f : Frame) → Framed z o → Ok f ≡ ok_or o BadShape → Framed z (Some f)
at_frame z (Some x) f h e = let same : f ≡ x = cc in rw same h
at_frame z None f h e = cc

pub at_none : (pages : ℕ) (m : Meaning) (o : Option Frame) (f : Refusal) → Framed (shape_of pages m) o → Err f ≡ ok_or o BadShape → Does (formatting pages m) cold m (refused f) cold m
unfolding formatting
at_none pages m (Some x) f h e = cc
at_none pages m None f h e = let same : f ≡ BadShape = cc in rw same (does_refused (formatting pages m) cold m BadShape (rw h))

-- a stroke was refused only for want of strokes
module _ (P : RackFault → Refusal → Type 0) (gives : (f : RackFault) (e : Refusal) → P f e → e ≡ OutOfStrokes) (pages : ℕ) (m n : Meaning) (fine : legal (shape_of pages m) ≡ true) where
  pub formats : (r : Result (Unit {0}) RackFault) (q : Result (Unit {0}) Refusal) → Plays (format_plan (shape_of pages m)) m (result_err r) n →
      MatchResult r (λ u. q ≡ Ok u) (λ f. IsErrAnd q (P f)) → Formats pages m n q
  unfolding formatting
  formats (Ok u) q y h =
      let z = shape_of pages m in
      let has = legal_has pages m fine in
      let places = placed_format z m has.0 has.1 in
      let made = all_strokes (format_plan z) m n places y in
      rw h (record { does = does_all (formatting pages m) cold m n (rw fine) places y; stands = formatted z m n has.0 has.1 made.0 made.1 })
  formats (Err f) (Ok u) y h = absurd h
  formats (Err f) (Err e) y h =
      let z = shape_of pages m in
      let has = legal_has pages m fine in
      rw (gives f e h) (record { does = does_short (formatting pages m) cold m n f (rw fine) (placed_format z m has.0 has.1) y; stands = tt })
