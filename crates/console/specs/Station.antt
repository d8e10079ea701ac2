-- What the station does on a command.
--
--   Opens k r             the answer r of a call that is to make a station whose rack keeps k
--   line_in bs            a line as it is read, without the newline that ends it
--   named n               the drive, block or page count that a number names: one above 65,535 names nothing, as 65,535 does
--   finished r            the answer where a call of the rack gave r
--   told r                the answer where a call of the store gave r
--   block_answer m d b    the answer to `block`: what block b of drive d of the rack m holds
--   CanBuild sizes        there can be a rack of these sizes
--   Orders n sizes o      o is the order of a rack of these sizes with n strokes left
--   Builds n sizes r      `rack` is a new rack of these sizes with n strokes left, or refused where there can be none
--   Formats p k r j       `format` is the store's own format of p pages, on the rack that keeps k and then j
--   Obeys s k r j         on the command s, a station whose rack keeps k comes to the step r, and its rack then keeps j
--   said_of r             the answer where the call for it gave r
--   step_of r             the step where the call for it gave r
--   Steps o k r j         the same on a line that says o, or is unknown
use Rattle.std.specs.Prelude.{◌≡◌, ℕ, ◌-◌, ◌<◌, min, true, false, cond, List, length, take, Some, None, Ok, Err, Option, Result, MatchResult, ◌==◌, slice_index}
use Rattle.rack.specs.declared.RackFault.{RackFault}
use Rattle.rack.specs.declared.RackFault.TheVariants.{NoPlace, Unreadable, BadShape}
use Rattle.rack.specs.Meaning.{Block as Value, Meaning, newest}
use Rattle.rack.specs.Answers.{within, answer}
use Rattle.rack.specs.Shapes.{LegalShape, HoldsSizes}
use Rattle.memory_rack.specs.Memory.{Kept, kept_in, fitting, shown, poke_fault, poked, tear_fault, torn, stopped}
use Rattle.model.specs.declared.Refusal.{Refusal}
use Rattle.model.specs.declared.Refusal.TheVariants.{Rack}
use Rattle.model.specs.Store.{cold}
use Rattle.model.specs.Outcome.{Does, reply_of}
use Rattle.model.specs.Format.{formatting}
use Rattle.script.specs.Commands.{Said, rack, format, left, block, poke, tear, stop}
use Rattle.script.specs.declared.answers.Answer.{Answer}
use Rattle.script.specs.declared.answers.Answer.TheVariants.{Done, Number, Block, Refused, Unknown}
use Rattle.console.specs.declared.Order.{Order}
use Rattle.console.specs.declared.Station.{Station}
use Rattle.console.specs.declared.Step.{Step}
use Rattle.console.specs.declared.Step.TheVariants.{Say, Build}

-- a station just where the memory fits the shape
abbrev pub Opens : Kept → Result Station RackFault → Type 0
Opens k r = MatchResult r (λ s. (fitting k ≡ true) × (kept_in s.rack ≡ k)) (λ f. (fitting k ≡ false) × (f ≡ BadShape))

abbrev pub line_in : List ℕ → List ℕ
line_in bs = cond (slice_index bs (length bs - 1) == 10) (take (length bs - 1) bs) bs

abbrev pub named : ℕ → ℕ
named n = min n 65535

abbrev pub finished : Result (Unit {0}) RackFault → Answer
finished (Ok u) = Done
finished (Err f) = Refused (Rack f)

abbrev pub told : Result (Unit {0}) Refusal → Answer
told (Ok u) = Done
told (Err f) = Refused f

-- the bytes of a block, if it can be read
abbrev pub value_answer : Option Value → Answer
value_answer (Some v) = Block v
value_answer None = Refused (Rack Unreadable)

abbrev pub block_answer : Meaning → ℕ → ℕ → Answer
block_answer m d b = cond (within m d b) (value_answer (newest (m.slot d b))) (Refused (Rack NoPlace))

-- a rack has at least one drive
pub record CanBuild (sizes : List ℕ) : Type 0 where
  pub some : 0 < length sizes
  pub legal : LegalShape sizes

-- what is to be built is a rack of these sizes with n strokes left
pub record Orders (n : ℕ) (sizes : List ℕ) (o : Order) : Type 0 where
  pub can : CanBuild sizes
  pub holds : HoldsSizes sizes o.shape
  pub strokes : o.left ≡ n

abbrev pub Builds : ℕ → List ℕ → Step → Type 0
Builds n sizes (Build o) = Orders n sizes o
Builds n sizes (Say a) = (CanBuild sizes → ⊥) × (a ≡ Refused (Rack BadShape))

pub record Formats (p : ℕ) (k : Kept) (r : Answer) (j : Kept) : Type 0 where
  pub result : Result (Unit {0}) Refusal
  pub does : Does (formatting p (shown k)) cold (shown k) (reply_of result) cold (shown j)
  pub says : r ≡ told result

abbrev pub Obeys : Said → Kept → Step → Kept → Type 0
Obeys (rack n sizes) k r j = Builds n sizes r × (j ≡ k)
Obeys (format p) k r j = (a : Answer) × (r ≡ Say a) × Formats (named p) k a j
Obeys left k r j = (r ≡ Say (Number k.left)) × (j ≡ k)
Obeys (block d b) k r j = (r ≡ Say (block_answer (shown k) (named d) (named b))) × (j ≡ k)
Obeys (poke d b at bytes) k r j =
    (r ≡ Say (finished (answer (poke_fault k (named d) (named b) at (length bytes))))) × (j ≡ poked k (named d) (named b) at bytes)
Obeys (tear d b) k r j = (r ≡ Say (finished (answer (tear_fault k (named d) (named b))))) × (j ≡ torn k (named d) (named b))
Obeys (stop n) k r j = (r ≡ Say Done) × (j ≡ stopped k n)

-- an unknown line changes nothing
abbrev pub Steps : Option Said → Kept → Step → Kept → Type 0
Steps None k r j = (r ≡ Say Unknown) × (j ≡ k)
Steps (Some s) k r j = Obeys s k r j

-- what a command's reader or call gave, as an answer and as a step
abbrev pub said_of : Result Answer RackFault → Answer
said_of (Ok a) = a
said_of (Err f) = Refused (Rack f)

abbrev pub step_of : Result Step Refusal → Step
step_of (Ok s) = s
step_of (Err f) = Say (Refused f)
