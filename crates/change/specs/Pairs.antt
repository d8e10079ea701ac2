-- Pairs of offset and length: the runs of bytes of a page that a change touches.
--
--   end_of p            where the run of the pair p ends
--   follows from p      p has a byte, starts at `from` or behind, and ends within the page
--   in_order from ps    the first of the pairs follows `from`, and each other one the end of the pair before it
--   well_paired ps      the pairs can stand in a change: there are 1 to 4, and they are in order
--   total ps            the sum of the lengths
--   total_in ps         that sum, if the pairs can stand in a change
--   covering ps n       the pairs can stand in a change, and cover n bytes
--   no_pair             an empty pair
--   slots_of ps         the first four pairs, with empty ones where there are fewer
--   pair_bytes p        the pair p in four bytes
--   pair_at bytes i     the pair in the four bytes from place i on
--   pairs_in n bytes    the n pairs that the bytes begin with
use Rattle.std.specs.Prelude.{ℕ, zero, suc, ◌+◌, Bool, true, cond, ◌&&◌, List, [], ◌∷◌, ◌++◌, length, drop, Some, None, Option, ◌==◌, nat_le, slice_index_or}
use Rattle.block.specs.Bytes.{bytes2, at2}
use Rattle.change.specs.declared.runs.Pair.{Pair}

abbrev pub end_of : Pair → ℕ
end_of p = p.offset + p.length

-- a page has 240 bytes
abbrev pub follows : ℕ → Pair → Bool
follows from p = nat_le 1 p.length && (nat_le from p.offset && nat_le (end_of p) 240)

abbrev pub in_order : ℕ → List Pair → Bool
in_order from [] = true
in_order from (p ∷ ps) = follows from p && in_order (end_of p) ps

abbrev pub well_paired : List Pair → Bool
well_paired ps = nat_le 1 (length ps) && (nat_le (length ps) 4 && in_order 0 ps)

abbrev pub total : List Pair → ℕ
total [] = 0
total (p ∷ ps) = p.length + total ps

abbrev pub total_in : List Pair → Option ℕ
total_in ps = cond (well_paired ps) (Some (total ps)) None

abbrev pub covering : List Pair → ℕ → Bool
covering ps n = well_paired ps && n == total ps

abbrev pub no_pair : Pair
no_pair = record { offset = 0; length = 0 }

abbrev pub slots_of : List Pair → List Pair
slots_of ps = slice_index_or ps 0 no_pair ∷ slice_index_or ps 1 no_pair ∷ slice_index_or ps 2 no_pair ∷ slice_index_or ps 3 no_pair ∷ []

-- offset, then length
abbrev pub pair_bytes : Pair → List ℕ
pair_bytes p = bytes2 p.offset ++ bytes2 p.length

abbrev pub pair_at : List ℕ → ℕ → Pair
pair_at bytes i = record { offset = at2 bytes i; length = at2 bytes (i + 2) }

abbrev pub pairs_in : ℕ → List ℕ → List Pair
pairs_in zero bytes = []
pairs_in (suc n) bytes = pair_at bytes 0 ∷ pairs_in n (drop 4 bytes)
