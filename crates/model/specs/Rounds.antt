-- The end of a round, and the store that begins the next one; finish.
--
--   flushes d n            flushes of the n drives from d on, rising
--   page_writes f c p n    writes of those of the n pages from p on that pass f, with the contents c
--   round_end z ρ f c      the strokes that end the round ρ: the logs flushed, the pages that pass f written and flushed, the head raised
--   rest_page c            a page with the content c that nobody holds and no record names
--   rested z ρ c           the warm store of the shape z at the start of the round ρ, with the contents c
--   found_page n ks p      the content of page p of a store of n pages, by the marks ks
--   is_named a p           a counting change names page p
--   finish_fault a k m     why finish is refused with k marks, if it is
--   finishing a ks m       the outcome of finish
use Rattle.std.specs.Prelude.{ℕ, zero, suc, ◌*◌, Bool, false, cond, not, List, [], ◌∷◌, ◌++◌, map, length, take, drop, None, Option, ◌==◌, nat_le, nat_lt, slice_index_or}
use Rattle.rack.specs.declared.RackFault.TheVariants.{NoPlace}
use Rattle.rack.specs.Meaning.{Meaning}
use Rattle.strokes.specs.declared.Stroke.{Stroke}
use Rattle.strokes.specs.declared.Stroke.TheVariants.{Write, Flush}
use Rattle.block.specs.Pages.{page_block}
use Rattle.later.specs.declared.Mark.{Mark}
use Rattle.drive_set.specs.Sets.{tally}
use Rattle.model.specs.declared.Refusal.{Refusal}
use Rattle.model.specs.declared.Refusal.TheVariants.{LastRound, BadLog, BadLength, Rack}
use Rattle.model.specs.Store.{Shape, Page, Warm, Applying, cold, warm, fits}
use Rattle.model.specs.Outcome.{Outcome, numbers}
use Rattle.model.specs.Format.{head_at, headed}
use Rattle.model.specs.Recovery.{when, untaken, committed}

unfoldable pub flushes : ℕ → ℕ → List Stroke
flushes d zero = []
flushes d (suc n) = Flush d ∷ flushes (suc d) n

-- a page is the block behind its number
unfoldable pub page_writes : (ℕ → Bool) → (ℕ → List ℕ) → ℕ → ℕ → List Stroke
page_writes f c p zero = []
page_writes f c p (suc n) = cond (f p) (Write 0 (suc p) (page_block (c p)) ∷ page_writes f c (suc p) n) (page_writes f c (suc p) n)

abbrev pub round_end : Shape → ℕ → (ℕ → Bool) → (ℕ → List ℕ) → List Stroke
round_end z ρ f c = flushes 1 z.logs ++ (page_writes f c 0 z.pages ++ (Flush 0 ∷ headed (head_at z (suc ρ))))

abbrev pub rest_page : List ℕ → Page
rest_page c = record { committed = c; working = c; holder = 0; touched = false }

-- nothing is touched, held or open; numbers begin at 1, logs at block 0, and the turn is drive 1's
abbrev pub rested : Shape → ℕ → (ℕ → List ℕ) → Warm
rested z ρ c = record { shape = z; round = ρ; page = λ p. rest_page (c p); filled = λ _. 0; turn = 1; begun = 0; commits = 0; sets = []; spoilt = false }

-- a page that the store does not have is empty
abbrev pub found_page : ℕ → List Mark → ℕ → List ℕ
found_page pages ks p = cond (nat_lt p pages) (map (λ k. k.byte) (take 240 (drop (p * 240) ks))) []

abbrev pub is_named : Applying → ℕ → Bool
is_named a p = slice_index_or a.pages p false

-- a log untaken; marks of the wrong length; the last round; a rack of another shape
abbrev pub finish_fault : Applying → ℕ → Meaning → Option Refusal
finish_fault a k m =
    when (not (untaken a.shape a.taken == 0)) BadLog
    (when (not (k == a.shape.pages * 240)) BadLength
    (when (nat_le 4294967295 a.round) LastRound
    (when (not (fits a.shape m)) (Rack NoPlace) None)))

-- it answers the committed sets and the pages written; where strokes run out the store is cold
unfoldable pub finishing : Applying → List Mark → Meaning → Outcome
finishing a ks m = record {
  fault = finish_fault a (length ks) m;
  plan = round_end a.shape a.round (is_named a) (found_page a.shape.pages ks);
  reply = numbers (committed a.numbers) (tally (is_named a) a.shape.pages);
  good = warm (rested a.shape (suc a.round) (found_page a.shape.pages ks));
  short = cold;
}
