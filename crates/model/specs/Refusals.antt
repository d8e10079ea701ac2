-- The numbers of the refusals.
--
--   refusal_number f    the number of the refusal f; a rack's own keeps its number
use Rattle.std.specs.Prelude.{ℕ}
use Rattle.rack.specs.Answers.{fault_number}
use Rattle.model.specs.declared.Refusal.{Refusal}
use Rattle.model.specs.declared.Refusal.TheVariants.{OutOfStrokes, NoStore, BadShape, NoSet, NoPage, BadPairs, PageHeld, LogFull, TooManySets, SetsUsedUp, SetOpen, LastRound, PageUnreadable, BadRecord, BadLog, BadLength, Rack}

abbrev pub refusal_number : Refusal → ℕ
refusal_number OutOfStrokes = 1
refusal_number NoStore = 2
refusal_number BadShape = 3
refusal_number NoSet = 4
refusal_number NoPage = 5
refusal_number BadPairs = 6
refusal_number PageHeld = 7
refusal_number LogFull = 8
refusal_number TooManySets = 9
refusal_number SetsUsedUp = 10
refusal_number SetOpen = 11
refusal_number LastRound = 12
refusal_number PageUnreadable = 13
refusal_number BadRecord = 14
refusal_number BadLog = 15
refusal_number BadLength = 16
refusal_number (Rack f) = fault_number f
