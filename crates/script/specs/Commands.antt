-- The commands of a script, and the lines that say them.
--
--   Said               a command, as plain data
--   said c             what the command c says
--   Form X             a form: what words from some place on say, an X, if they are as wanted
--   end x              the form of no more words, which says x
--   number k           the form of a number n, and then of the form k n
--   hex k              the form of bytes bs, and then of the form k bs
--   numbers s          the form of any count of numbers ns, which says s ns
--   forms              the grammar: each command's name, with the form of the words after it
--   command_in line    what the line says, if it says a command
use Rattle.std.specs.Prelude.{ℕ, cond, List, [], ◌∷◌, drop, Some, None, vec_items, codes, Option}
use Rattle.std.specs.Option.{option_map}
use Rattle.std.specs.Str.{bytes_eq}
use Rattle.script.specs.declared.Command.{Command}
use Rattle.script.specs.declared.Command.TheVariants.{Rack, Format, Left, Block, Poke, Tear, Stop}
use Rattle.script.specs.Values.{given, number_in, numbers_in, hex_in}
use Rattle.script.specs.Words.{Word, words, first}

-- d and b are a drive and a block, at a place in the block
pub data Said : Type 0 where
  rack : (strokes : ℕ) (sizes : List ℕ) → Said
  format : (pages : ℕ) → Said
  left : Said
  block : (d b : ℕ) → Said
  poke : (d b at : ℕ) (bytes : List ℕ) → Said
  tear : (d b : ℕ) → Said
  stop : (strokes : ℕ) → Said

abbrev pub said : Command → Said
said (Rack n sizes) = rack n (vec_items sizes)
said (Format n) = format n
said Left = left
said (Block d b) = block d b
said (Poke d b at bytes) = poke d b at (vec_items bytes)
said (Tear d b) = tear d b
said (Stop n) = stop n

abbrev pub Form : Type 0 → Type 0
Form X = List Word → Option X

abbrev pub end : {X : Type 0} → X → Form X
end x [] = Some x
end x (w ∷ ws) = None

abbrev pub number : {X : Type 0} → (ℕ → Form X) → Form X
number k ws = given (given (first ws) number_in) (λ n. k n (drop 1 ws))

abbrev pub hex : {X : Type 0} → (List ℕ → Form X) → Form X
hex k ws = given (given (first ws) hex_in) (λ bs. k bs (drop 1 ws))

abbrev pub numbers : {X : Type 0} → (List ℕ → X) → Form X
numbers s ws = option_map s (numbers_in ws)

-- rack LEFT SIZE SIZE ..
abbrev pub rack_form : Form Said
rack_form = number (λ n. numbers (λ sizes. rack n sizes))

-- format PAGES
abbrev pub format_form : Form Said
format_form = number (λ n. end (format n))

-- left
abbrev pub left_form : Form Said
left_form = end left

-- block D B
abbrev pub block_form : Form Said
block_form = number (λ d. number (λ b. end (block d b)))

-- poke D B AT HEX
abbrev pub poke_form : Form Said
poke_form = number (λ d. number (λ b. number (λ at. hex (λ bytes. end (poke d b at bytes)))))

-- tear D B
abbrev pub tear_form : Form Said
tear_form = number (λ d. number (λ b. end (tear d b)))

-- stop LEFT
abbrev pub stop_form : Form Said
stop_form = number (λ n. end (stop n))

abbrev pub forms : List (Word × Form Said)
forms =
    (codes "rack", rack_form)
    ∷ (codes "format", format_form)
    ∷ (codes "left", left_form)
    ∷ (codes "block", block_form)
    ∷ (codes "poke", poke_form)
    ∷ (codes "tear", tear_form)
    ∷ (codes "stop", stop_form)
    ∷ []

-- the form that goes by this name
abbrev pub form_of : List (Word × Form Said) → Word → Form Said
form_of [] name ws = None
form_of (f ∷ fs) name ws = cond (bytes_eq name f.0) (f.1 ws) (form_of fs name ws)

-- an empty word is no name, no number and no bytes: a leading, trailing or doubled space makes a line unknown
abbrev pub command_in : List ℕ → Option Said
command_in line = given (first (words line)) (λ name. form_of forms name (drop 1 (words line)))
