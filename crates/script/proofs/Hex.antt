-- Bytes written as hexadecimal digits.
use Rattle.std.proofs.Common.{◌≡◌, ℕ, ◌+◌, ◌/◌, ◌%◌, ◌<◌, true, List, [], ◌∷◌, ◌++◌, length, get_or, take, ap, ◌∙◌, arith}
use lib.Utf8.{encode}
use Rattle.std.proofs.Output.{has_written_append, has_written_of_eq}
use Rattle.std.proofs.lemmas.Bool.Decides.{nat_tests}
use Rattle.std.proofs.lemmas.List.{take_more, flat_map_more}
use Rattle.std.proofs.lemmas.Str.{encode_ascii}
use Rattle.std.specs.declared.fmt.Formatter.{Formatter}
use Rattle.std.specs.Fmt.{digit_glyph, IsPlainFormatter, HasWritten}
use Rattle.script.specs.Texts.{hex_text, byte_text}

-- a digit's character c is one byte
digit_byte : (c d : ℕ) → d < 16 → c ≡ digit_glyph true d → encode c ≡ digit_glyph true d ∷ []
digit_byte c d h e = let low : c < 128 = grind (arith, nat_tests) in encode_ascii c low ∙ ap (λ x. x ∷ []) e

more : (bs : List ℕ) (i : ℕ) → i < length bs → hex_text (take i bs) ++ byte_text (get_or bs i 0) ≡ hex_text (take (i + 1) bs)
more bs i h = rw (take_more bs i 0 h) (flat_map_more byte_text [] (take i bs) (get_or bs i 0))

-- the digits c and d of the next byte, one after the other
module _ {W : Type 0} (took : W → List ℕ → W → Type 0) (f g h k : Formatter W) where
  pub byte_put : (bs : List ℕ) (i c d : ℕ) → i < length bs → get_or bs i 0 < 256 → c ≡ digit_glyph true (get_or bs i 0 / 16) → d ≡ digit_glyph true (get_or bs i 0 % 16) →
      HasWritten took f (hex_text (take i bs)) g → (IsPlainFormatter g → HasWritten took g (encode c) h) → (IsPlainFormatter h → HasWritten took h (encode d) k) →
      HasWritten took f (hex_text (take (i + 1) bs)) k
  byte_put bs i c d l b p q before first second =
      let x = get_or bs i 0 in
      let one = has_written_of_eq took g _ _ h (digit_byte c (x / 16) (omega (arith, b)) p) (first before.plain) in
      let two = has_written_of_eq took h _ _ k (digit_byte d (x % 16) (omega arith) q) (second one.plain) in
      has_written_of_eq took f _ _ k (more bs i l) (has_written_append took f _ g _ k before (has_written_append took g _ h _ k one two))
