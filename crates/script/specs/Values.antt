-- What a word says, where a number or bytes are wanted.
--
--   given o k        what k makes of the value in o, if there is one
--   both f o p       f of the values in o and p, if there are both
--   number_in w      the number that the word w is, if it is one
--   numbers_in ws    the numbers that the words are, if each is one
--   digit_in c       the worth of the byte c as a capital hexadecimal digit
--   byte_in h l      the byte that two such digits write
--   bytes_in w       the bytes that the word w writes, two digits a byte, if it does
--   hex_in w         the same, of at least one byte
use Rattle.std.specs.Prelude.{ℕ, ◌+◌, ◌-◌, ◌*◌, cond, ◌&&◌, List, [], ◌∷◌, length, Some, None, Option, nat_le}
use Rattle.std.specs.Str.Parse.{digits_value}
use Rattle.std.specs.Int.{is_in_range}
use Rattle.std.specs.Str.{all_ascii_digits}
use Rattle.script.specs.Words.{Word}

abbrev pub given : {X Y : Type 0} → Option X → (X → Option Y) → Option Y
given None k = None
given (Some x) k = k x

abbrev pub both : {X Y Z : Type 0} → (X → Y → Z) → Option X → Option Y → Option Z
both f None p = None
both f (Some x) None = None
both f (Some x) (Some y) = Some (f x y)

-- one to ten digits, leading zeros among them, whose value is at most 4294967295
abbrev pub number_in : Word → Option ℕ
number_in w = cond (nat_le 1 (length w) && nat_le (length w) 10 && all_ascii_digits w && nat_le (digits_value 10 w) 4294967295) (Some (digits_value 10 w)) None

abbrev pub numbers_in : List Word → Option (List ℕ)
numbers_in [] = Some []
numbers_in (w ∷ ws) = both ◌∷◌ (number_in w) (numbers_in ws)

-- 0 to 9 and A to F
abbrev pub digit_in : ℕ → Option ℕ
digit_in c = cond (is_in_range 48 57 c) (Some (c - 48)) (cond (is_in_range 65 70 c) (Some (c - 55)) None)

abbrev pub byte_in : ℕ → ℕ → Option ℕ
byte_in h l = both (λ x y. x * 16 + y) (digit_in h) (digit_in l)

abbrev pub bytes_in : Word → Option (List ℕ)
bytes_in [] = Some []
bytes_in (h ∷ []) = None
bytes_in (h ∷ l ∷ w) = both ◌∷◌ (byte_in h l) (bytes_in w)

abbrev pub hex_in : Word → Option (List ℕ)
hex_in [] = None
hex_in (c ∷ w) = bytes_in (c ∷ w)
