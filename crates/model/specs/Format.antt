-- Format: an empty store of so many pages is laid out on a rack.
--
--   head_at z ρ            the block of the head of a store of the shape z in the round ρ
--   headed v               a write of the head block, and its flush
--   wipe blocks d          zeros to each block of log drive d, rising, and its flush; drive d has `blocks d` blocks
--   wipes blocks d n       this for the n log drives from d on
--   blank_pages k          zeros to k pages, and the flush of drive 0
--   format_plan z          all strokes of a format, in order
--   formatting pages m     the outcome of format on the rack m
--   Formatted z m n        what a format of the shape z that answered has made of the rack m
--   IfFormatted r z m n    this, if the reply r is no refusal
use Rattle.std.specs.Prelude.{◌≡◌, ℕ, zero, suc, ◌+◌, ◌<◌, ◌≤◌, cond, List, [], ◌∷◌, ◌++◌, Some, None}
use Rattle.rack.specs.Meaning.{Block, Meaning, Stands}
use Rattle.strokes.specs.declared.Stroke.{Stroke}
use Rattle.strokes.specs.declared.Stroke.TheVariants.{Write, Flush}
use Rattle.strokes.specs.Plan.{settled_run}
use Rattle.block.specs.Bytes.{zeros}
use Rattle.block.specs.Heads.{head_block}
use Rattle.block.specs.Pages.{page_block}
use Rattle.model.specs.declared.Refusal.TheVariants.{BadShape}
use Rattle.model.specs.Store.{Shape, shape_of, legal, cold}
use Rattle.model.specs.Outcome.{Outcome, Reply, done, refused, number, numbers}

abbrev pub head_at : Shape → ℕ → Block
head_at z ρ = head_block (record { pages = z.pages; round = ρ; logs = z.logs })

-- the head is settled before anything else is written
abbrev pub headed : Block → List Stroke
headed v = Write 0 0 v ∷ Flush 0 ∷ []

abbrev pub wipe : (ℕ → ℕ) → ℕ → List Stroke
wipe blocks d = settled_run d 0 (blocks d) (zeros 512)

unfoldable pub wipes : (ℕ → ℕ) → ℕ → ℕ → List Stroke
wipes blocks d zero = []
wipes blocks d (suc n) = wipe blocks d ++ wipes blocks (suc d) n

abbrev pub blank_pages : ℕ → List Stroke
blank_pages k = settled_run 0 1 k (page_block (zeros 240))

-- a zero head first, so that a format that stops half-way leaves no store; then the logs, the pages, the head of round 1
abbrev pub format_plan : Shape → List Stroke
format_plan z = headed (zeros 512) ++ (wipes z.blocks 1 z.logs ++ (blank_pages z.pages ++ headed (head_at z 1)))

-- refused where the shape is not legal; the store stays cold in any case
unfoldable pub formatting : ℕ → Meaning → Outcome
formatting pages m = record {
  fault = cond (legal (shape_of pages m)) None (Some BadShape);
  plan = format_plan (shape_of pages m);
  reply = done;
  good = cold;
  short = cold;
}

-- the blocks of n logs from d on, and a flush for each log
abbrev pub wipe_strokes : (ℕ → ℕ) → ℕ → ℕ → ℕ
wipe_strokes blocks d zero = 0
wipe_strokes blocks d (suc n) = blocks d + 1 + wipe_strokes blocks (suc d) n

-- the head of round 1, pages and logs of zeros; 5 strokes are taken besides those for pages and logs
pub record Formatted (z : Shape) (m n : Meaning) : Type 0 where
  pub head : Stands n 0 0 (head_at z 1)
  pub page : (p : ℕ) → p < z.pages → Stands n 0 (suc p) (page_block (zeros 240))
  pub log : (d b : ℕ) → 1 ≤ d → d ≤ z.logs → b < z.blocks d → Stands n d b (zeros 512)
  pub strokes : n.left + (5 + z.pages + wipe_strokes z.blocks 1 z.logs) ≡ m.left

abbrev pub IfFormatted : Reply → Shape → Meaning → Meaning → Type 0
IfFormatted done z m n = Formatted z m n
IfFormatted (refused f) z m n = Unit {0}
IfFormatted (number k) z m n = Unit {0}
IfFormatted (numbers j k) z m n = Unit {0}
