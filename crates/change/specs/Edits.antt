-- What pairs, with the bytes of their runs joined, say of the content of a page.
--
--   inside p i                   byte i of the page lies in the run of the pair p
--   covered ps i                 it lies in the run of one of the pairs
--   picked ps bytes i            the byte that the joined bytes hold for byte i of the page
--   gathered ps content          the bytes of a content in the runs of the pairs, joined
--   overlaid ps bytes content    the content with the joined bytes put where the pairs say
use Rattle.std.specs.Prelude.{ℕ, ◌-◌, Bool, false, cond, ◌&&◌, ◌||◌, List, [], ◌∷◌, ◌++◌, map, take, drop, nat_le, nat_lt, slice_index}
use Rattle.std.specs.List.{range_with_len}
use Rattle.change.specs.Pairs.{end_of}
use Rattle.change.specs.declared.runs.Pair.{Pair}

abbrev pub inside : Pair → ℕ → Bool
inside p i = nat_le p.offset i && nat_lt i (end_of p)

abbrev pub covered : List Pair → ℕ → Bool
covered [] i = false
covered (p ∷ ps) i = inside p i || covered ps i

-- 0 where the byte is not covered
abbrev pub picked : List Pair → List ℕ → ℕ → ℕ
picked [] bytes i = 0
picked (p ∷ ps) bytes i = cond (inside p i) (slice_index bytes (i - p.offset)) (picked ps (drop p.length bytes) i)

abbrev pub gathered : List Pair → List ℕ → List ℕ
gathered [] content = []
gathered (p ∷ ps) content = take p.length (drop p.offset content) ++ gathered ps content

-- a content has 240 bytes
unfoldable pub overlaid : List Pair → List ℕ → List ℕ → List ℕ
overlaid ps bytes content = map (λ i. cond (covered ps i) (picked ps bytes i) (slice_index content i)) (range_with_len 0 240)
