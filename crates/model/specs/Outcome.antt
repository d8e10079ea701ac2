-- A call of the store, by its outcome.
--
--   Reply               what comes back: a refusal, or an answer of nothing, of a number or of two
--   Outcome             why the call refuses at once, if it does; else the strokes of its plan, what it replies and
--                       the state it leaves when all of them are made, and the state when strokes run out
--   made o m            the strokes that a call with the outcome o makes on the rack m: as many of its plan as are left
--   Does o s m r t n    a call with the outcome o, on a store in the state s over the rack m, replies r and leaves
--                       the state t and the rack n
use Rattle.std.specs.Prelude.{◌≡◌, ℕ, Bool, cond, List, [], length, take, Some, None, Ok, Err, Option, Result, nat_le}
use Rattle.rack.specs.Meaning.{Meaning}
use Rattle.strokes.specs.declared.Stroke.{Stroke}
use Rattle.strokes.specs.Plan.{Strokes}
use Rattle.model.specs.declared.Refusal.{Refusal}
use Rattle.model.specs.declared.Refusal.TheVariants.{OutOfStrokes}
use Rattle.model.specs.Store.{Store}

pub data Reply : Type 0 where
  refused : Refusal → Reply
  done : Reply
  number : ℕ → Reply
  numbers : ℕ → ℕ → Reply

pub record Outcome : Type 0 where
  pub fault : Option Refusal
  pub plan : List Stroke
  pub reply : Reply
  pub good : Store
  pub short : Store

-- what becomes of a call that refuses at once, and of one that does not
abbrev pub by_fault : {X : Type 0} → Option Refusal → (Refusal → X) → X → X
by_fault (Some f) g x = g f
by_fault None g x = x

-- whether the strokes left suffice for the plan
abbrev pub enough : Outcome → Meaning → Bool
enough o m = nat_le (length o.plan) m.left

-- a refusal makes no stroke
abbrev pub made : Outcome → Meaning → List Stroke
made o m = by_fault o.fault (λ _. []) (take m.left o.plan)

-- a refusal leaves the state as it was; a call that runs out of strokes returns 1 and keeps the strokes it made
pub record Does (o : Outcome) (s : Store) (m : Meaning) (r : Reply) (t : Store) (n : Meaning) : Type 0 where
  pub replies : r ≡ by_fault o.fault refused (cond (enough o m) o.reply (refused OutOfStrokes))
  pub becomes : t ≡ by_fault o.fault (λ _. s) (cond (enough o m) o.good o.short)
  pub leaves : Strokes (made o m) m n

-- the reply of a call that answers nothing
abbrev pub reply_of : Result (Unit {0}) Refusal → Reply
reply_of (Ok u) = done
reply_of (Err f) = refused f
