-- Laws of recovery, in the subject's words.
--
--   Logs               what an applying store goes by: commit numbers, page count, round, the rack, and the blocks of each log
--   all_offers l ds    the marks that the logs ds offer, taken in this order, each with its place
--   AnyOrder           the marks do not hang on the order in which logs are taken, nor on how often
--   LargestStays       each byte ends with the mark of the largest stamp among the one that was there and those offered for it
use Rattle.std.specs.Prelude.{◌≡◌, ℕ, ◌<◌, true, List, [], ◌∷◌, ◌++◌, length, slice_index_or}
use Rattle.rack.specs.Meaning.{Meaning}
use Rattle.later.specs.declared.Mark.{Mark}
use Rattle.later.specs.Keeping.{kept_all, came_to, Among, SameMembers}
use Rattle.later.specs.Stamps.{mark_upto}
use Rattle.model.specs.Logs.{offers_from}

pub record Logs : Type 0 where
  pub numbers : List ℕ
  pub pages : ℕ
  pub round : ℕ
  pub rack : Meaning
  pub blocks : ℕ → ℕ

abbrev pub offers_on : Logs → ℕ → List (ℕ × Mark)
offers_on l d = offers_from l.numbers l.pages l.round l.rack d 0 (l.blocks d)

abbrev pub all_offers : Logs → List ℕ → List (ℕ × Mark)
all_offers l [] = []
all_offers l (d ∷ ds) = offers_on l d ++ all_offers l ds

-- ks: the marks before; ds and es: the same logs in two orders
abbrev pub AnyOrder : Type 0
AnyOrder = (l : Logs) (ks : List Mark) (ds es : List ℕ) → SameMembers ds es → kept_all mark_upto ks (all_offers l ds) ≡ kept_all mark_upto ks (all_offers l es)

-- i: the place of the byte among the marks
abbrev pub LargestStays : Type 0
LargestStays =
    (l : Logs) (ks : List Mark) (ds : List ℕ) (i : ℕ) (none : Mark) → i < length ks →
    let kept = slice_index_or (kept_all mark_upto ks (all_offers l ds)) i none in
    let met = slice_index_or ks i none ∷ came_to i (all_offers l ds) in
    Among kept met × ((k : Mark) → Among k met → mark_upto k kept ≡ true)
