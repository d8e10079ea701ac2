-- What each call of a rack answers, and what it leaves.
--
--   read_fault m d b n     why a read of block b of drive d into n bytes is turned down, if it is
--   write_fault m d b n    the same of a write of n bytes
--   flush_fault m d        the same of a flush
--   answer f               the answer of a call that has this fault, of any kind, or none
--   blocks_answer m d      the answer to the question for a drive's blocks
--   fetched r o old        what a read with the answer r leaves in a buffer that held old, where the block holds o
--   Leaves r w m n         a stroke with the answer r leaves the rack n: up to early settling w if it was made, else m
--   fault_number f         the fault's number in the table of refusals
use Rattle.std.specs.Prelude.{◌≡◌, ℕ, Bool, cond, ◌&&◌, Some, None, Ok, Err, Option, Result, ◌==◌, nat_lt}
use Rattle.rack.specs.declared.RackFault.{RackFault}
use Rattle.rack.specs.declared.RackFault.TheVariants.{NoStroke, NoPlace, Unreadable, BadLength, TooSmall, BadShape}
use Rattle.rack.specs.Meaning.{Block, Meaning, Early, newest}

-- there is such a drive and such a block on it
abbrev pub within : Meaning → ℕ → ℕ → Bool
within m d b = nat_lt d m.count && nat_lt b (m.size d)

-- the checks, in their order: the buffer's length, the place, the strokes left, whether the block can be read
abbrev pub stroke_fault : Meaning → Option RackFault
stroke_fault m = cond (m.left == 0) (Some NoStroke) None

abbrev pub unreadable_fault : Option Block → Option RackFault
unreadable_fault (Some v) = None
unreadable_fault None = Some Unreadable

abbrev pub write_fault : Meaning → ℕ → ℕ → ℕ → Option RackFault
write_fault m d b n = cond (n == 512) (cond (within m d b) (stroke_fault m) (Some NoPlace)) (Some BadLength)

abbrev pub flush_fault : Meaning → ℕ → Option RackFault
flush_fault m d = cond (nat_lt d m.count) (stroke_fault m) (Some NoPlace)

abbrev pub read_fault : Meaning → ℕ → ℕ → ℕ → Option RackFault
read_fault m d b n = cond (n == 512) (cond (within m d b) (unreadable_fault (newest (m.slot d b))) (Some NoPlace)) (Some BadLength)

-- faults of any kind: a layer above has refusals of its own
abbrev pub answer : {F : Type 0} → Option F → Result (Unit {0}) F
answer None = Ok tt
answer (Some f) = Err f

abbrev pub blocks_answer : Meaning → ℕ → Result ℕ RackFault
blocks_answer m d = cond (nat_lt d m.count) (Ok (m.size d)) (Err NoPlace)

abbrev pub or_old : Option Block → Block → Block
or_old (Some v) old = v
or_old None old = old

abbrev pub fetched : {X : Type 0} → Result X RackFault → Option Block → Block → Block
fetched (Ok _) o old = or_old o old
fetched (Err _) o old = old

abbrev pub Leaves : {X : Type 0} → Result X RackFault → Meaning → Meaning → Meaning → Type 0
Leaves (Ok _) w m n = Early w n
Leaves (Err _) w m n = n ≡ m

abbrev pub fault_number : RackFault → ℕ
fault_number NoStroke = 31
fault_number NoPlace = 32
fault_number Unreadable = 33
fault_number BadLength = 34
fault_number TooSmall = 35
fault_number BadShape = 36
