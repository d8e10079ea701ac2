-- The reader that hands out the words of a line; the contracts of inner functions cite it.
--
--   ahead r          the words that the reader r has yet to hand out
--   Says view r o    the reading r gave what o says, as view shows it, or no value; where memory was wanting, it may be either
--   only_number      the form of one number and no more words
--   only_place       the form of a drive, a block and no more words
use Rattle.std.specs.Prelude.{◌≡◌, ℕ, List, [], Some, None, Ok, Err, Option, Result}
use Rattle.std.specs.Borrow.{Bor}
use Rattle.script.specs.declared.error.ParseError.{ParseError}
use Rattle.script.specs.declared.error.ParseError.TheVariants.{Unknown, OutOfMemory}
use Rattle.script.specs.declared.words.Words.{Words}
use Rattle.script.specs.Commands.{Form, end, number}
use Rattle.script.specs.Words.{Word, words}

-- at the end of a line no word is left, not even an empty one
abbrev pub words_of : Option (Bor (List ℕ)) → List Word
words_of None = []
words_of (Some rest) = words rest.now

abbrev pub ahead : Words → List Word
ahead r = words_of r.rest

abbrev pub Says : {X Y : Type 0} → (X → Y) → Result X ParseError → Option Y → Type 0
Says view (Ok x) o = Some (view x) ≡ o
Says view (Err Unknown) o = None ≡ o
Says view (Err (OutOfMemory e)) o = Unit {0}

abbrev pub only_number : Form ℕ
only_number = number end

abbrev pub only_place : Form (ℕ × ℕ)
only_place = number (λ d. number (λ b. end (d, b)))
