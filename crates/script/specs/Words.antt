-- The words of a line.
--
--   Word          the bytes of a word
--   words line    the parts of the line between its single spaces
--   first ws      the first of the words, if there is one
use Rattle.std.specs.Prelude.{ℕ, cond, List, [], ◌∷◌, Some, None, Option, ◌==◌}

abbrev pub Word : Type 0
Word = List ℕ

-- the byte c in front of the first word
abbrev pub onto : ℕ → List Word → List Word
onto c [] = (c ∷ []) ∷ []
onto c (w ∷ ws) = (c ∷ w) ∷ ws

-- a space, byte 32, ends a word: there is one word more than there are spaces, and words can be empty
abbrev pub words : List ℕ → List Word
words [] = [] ∷ []
words (c ∷ cs) = cond (c == 32) ([] ∷ words cs) (onto c (words cs))

abbrev pub first : List Word → Option Word
first [] = None
first (w ∷ ws) = Some w
