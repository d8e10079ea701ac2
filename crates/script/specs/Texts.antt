-- The text of an answer.
--
--   byte_text b      the byte b in capital hexadecimal, two digits
--   hex_text bs      the bytes in capital hexadecimal, two digits a byte
--   answer_text a    the line that the program prints, without its newline
use Rattle.std.specs.Prelude.{ℕ, ◌/◌, ◌%◌, true, List, [], ◌∷◌, ◌++◌, codes, decimal}
use Rattle.std.specs.Fmt.{digit_glyph}
use Rattle.std.specs.List.{flat_map}
use Rattle.model.specs.Refusals.{refusal_number}
use Rattle.script.specs.declared.answers.Answer.{Answer}
use Rattle.script.specs.declared.answers.Answer.TheVariants.{Done, Number, Block, Refused, NotNow, Unknown}

abbrev pub byte_text : ℕ → List ℕ
byte_text b = digit_glyph true (b / 16) ∷ digit_glyph true (b % 16) ∷ []

abbrev pub hex_text : List ℕ → List ℕ
hex_text bs = flat_map byte_text bs

abbrev pub answer_text : Answer → List ℕ
answer_text Done = codes "ok"
answer_text (Number n) = decimal n
answer_text (Block bytes) = hex_text bytes
answer_text (Refused f) = codes "refused " ++ decimal (refusal_number f)
answer_text NotNow = codes "not now"
answer_text Unknown = codes "unknown"
