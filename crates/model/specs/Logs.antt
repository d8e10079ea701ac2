-- What a log says, block by block.
--
--   value_at m d b                    what a read of block b of drive d gives: None where it cannot be read
--   Record                            a change or a commit
--   record_in b                       the record whose block b is, if there is one
--   counts ρ o                        the value o counts in the round ρ: it is readable, and its bytes 4 to 7 are ρ
--   record_of ρ o                     the record in a value that counts in the round ρ
--   sound pages r                     the record r is a commit, or a change of one of the pages
--   ill ρ pages o                     the value counts, and holds no such record
--   commits_from ρ m d b n            the sets with their commit numbers that the n blocks of drive d from b on give
--   stamp_of ns d b v                 the stamp of the bytes of the change v in block b of drive d; ns are the commit numbers
--   image_of ns v                     the bytes that v offers: after bytes where its set has a commit number, else before bytes
--   spread s i ps bytes               the joined bytes in the runs of the pairs ps, all with the stamp s, each with its place;
--                                     i is the place of the page's first byte
--   offered ns pages d b r            the marks that the record r in block b of drive d offers, each with its place
--   offers_from ns pages ρ m d b n    the marks that the n blocks of drive d from b on offer, each with its place
--   named pages r                     the page that the record r names
--   named_from pages ρ m d b n        the pages that the n blocks of drive d from b on name
use Rattle.std.specs.Prelude.{ℕ, zero, suc, ◌+◌, ◌*◌, Bool, true, false, cond, not, ◌&&◌, List, [], ◌∷◌, ◌++◌, take, drop, Some, None, Option, ◌==◌, nat_lt, slice_index}
use Rattle.rack.specs.Meaning.{Block, Meaning, newest}
use Rattle.rack.specs.Answers.{within}
use Rattle.block.specs.Bytes.{at4}
use Rattle.block.specs.Readings.{commit_in}
use Rattle.block.specs.declared.commits.Commit.{Commit}
use Rattle.change.specs.Changes.{Content}
use Rattle.change.specs.Readings.{change_in}
use Rattle.change.specs.declared.runs.Pair.{Pair}
use Rattle.later.specs.declared.Stamp.{Stamp}
use Rattle.later.specs.declared.Stamp.TheVariants.{Before, After}
use Rattle.later.specs.declared.Mark.{Mark}
use Rattle.later.specs.declared.Place.{Place}

abbrev pub value_at : Meaning → ℕ → ℕ → Option Block
value_at m d b = cond (within m d b) (newest (m.slot d b)) None

pub data Record : Type 0 where
  change : Content → Record
  commit : Commit → Record

-- no block is both
abbrev pub either_in : Option Commit → Option Content → Option Record
either_in (Some c) o = Some (commit c)
either_in None (Some v) = Some (change v)
either_in None None = None

abbrev pub record_in : Block → Option Record
record_in b = either_in (commit_in b) (change_in b)

abbrev pub counts : ℕ → Option Block → Bool
counts ρ None = false
counts ρ (Some b) = at4 b 4 == ρ

abbrev pub record_of : ℕ → Option Block → Option Record
record_of ρ None = None
record_of ρ (Some b) = cond (at4 b 4 == ρ) (record_in b) None

-- a commit, or a change of one of the pages
abbrev pub sound : ℕ → Option Record → Bool
sound pages None = false
sound pages (Some (commit c)) = true
sound pages (Some (change v)) = nat_lt v.page pages

abbrev pub ill : ℕ → ℕ → Option Block → Bool
ill ρ pages o = counts ρ o && not (sound pages (record_of ρ o))

-- a commit gives its set its number
abbrev pub given : Option Record → List (ℕ × ℕ)
given None = []
given (Some (commit c)) = (c.set, c.number) ∷ []
given (Some (change v)) = []

unfoldable pub commits_from : ℕ → Meaning → ℕ → ℕ → ℕ → List (ℕ × ℕ)
commits_from ρ m d b zero = []
commits_from ρ m d b (suc n) = given (record_of ρ (value_at m d b)) ++ commits_from ρ m d (suc b) n

-- a set without a commit number has the number 0
abbrev pub stamp_of : List ℕ → ℕ → ℕ → Content → Stamp
stamp_of numbers d b v =
    let place : Place = record { drive = d; block = b } in
    let commit = slice_index numbers v.set in
    cond (commit == 0) (Before place) (After commit v.set v.step place)

abbrev pub image_of : List ℕ → Content → List ℕ
image_of numbers v = cond (slice_index numbers v.set == 0) v.before v.after

-- bytes from a place on, all with one stamp
abbrev pub stamped : Stamp → ℕ → List ℕ → List (ℕ × Mark)
stamped s i [] = []
stamped s i (x ∷ xs) = (i, record { stamp = s; byte = x }) ∷ stamped s (suc i) xs

-- the runs of the pairs, with the joined bytes, from the place of the page's first byte on
abbrev pub spread : Stamp → ℕ → List Pair → List ℕ → List (ℕ × Mark)
spread s i [] bytes = []
spread s i (p ∷ ps) bytes = stamped s (i + p.offset) (take p.length bytes) ++ spread s i ps (drop p.length bytes)

-- what is no change of one of the pages offers nothing
abbrev pub offered : List ℕ → ℕ → ℕ → ℕ → Option Record → List (ℕ × Mark)
offered numbers pages d b None = []
offered numbers pages d b (Some (commit c)) = []
offered numbers pages d b (Some (change v)) =
    cond (nat_lt v.page pages) (spread (stamp_of numbers d b v) (v.page * 240) v.pairs (image_of numbers v)) []

unfoldable pub offers_from : List ℕ → ℕ → ℕ → Meaning → ℕ → ℕ → ℕ → List (ℕ × Mark)
offers_from numbers pages ρ m d b zero = []
offers_from numbers pages ρ m d b (suc n) = offered numbers pages d b (record_of ρ (value_at m d b)) ++ offers_from numbers pages ρ m d (suc b) n

abbrev pub named : ℕ → Option Record → List ℕ
named pages None = []
named pages (Some (commit c)) = []
named pages (Some (change v)) = cond (nat_lt v.page pages) (v.page ∷ []) []

unfoldable pub named_from : ℕ → ℕ → Meaning → ℕ → ℕ → ℕ → List ℕ
named_from pages ρ m d b zero = []
named_from pages ρ m d b (suc n) = named pages (record_of ρ (value_at m d b)) ++ named_from pages ρ m d (suc b) n
