-- The end of a round, part after part: where it may stop, and where all of it is played.
use Rattle.std.proofs.Common.{◌≡◌, ℕ, suc, ◌<◌, Bool, List, [], ◌∷◌, ◌++◌, get_or, Some, None, Ok, Err, Result, refl, ap, arith}
use Rattle.std.proofs.lemmas.Bool.{cond_below}
use Rattle.std.specs.Result.{result_err}
use Rattle.rack.specs.declared.RackFault.{RackFault}
use Rattle.rack.specs.Meaning.{Meaning, Early, flushed}
use Rattle.rack.specs.Answers.{answer, flush_fault}
use Rattle.block.specs.declared.Head.{Head}
use Rattle.strokes.specs.declared.Stroke.{Stroke}
use Rattle.strokes.specs.declared.Stroke.TheVariants.{Flush}
use Rattle.strokes.specs.Plan.{Plays}
use Rattle.strokes.proofs.Playing.{Onto, onto_none, stroke_made, stroke_refused, part_made, part_refused, last_part}
use Rattle.model.specs.Format.{head_at, headed}
use Rattle.model.specs.Rounds.{flushes, page_writes, round_end, rest_page}
use Rattle.pages.specs.declared.Page.{Page}
use Rattle.pages.specs.Pages.{no_page, page_in, committed_in, contents_in}
use Rattle.table.specs.Pages.{is_chosen}
use Rattle.table.specs.Heads.{head_shape}
use Rattle.table.proofs.Writing.{writes_same}

-- a page that the store has is the one in the table
content_has : (n : ℕ) (t : List Page) (p : ℕ) → p < n → committed_in t p ≡ contents_in n t p
content_has n t p h = ap (λ g. g.committed) (cond_below p n (page_in (get_or t p no_page)) (rest_page []) h)

module _ (h : Head) (s : List Bool) (t : List Page) (m : Meaning) where
  abbrev plan : List Stroke
  plan = round_end (head_shape h) h.round (is_chosen s) (contents_in h.pages t)

  -- the parts, and what is left from each on
  abbrev logs : List Stroke
  logs = flushes 1 h.logs

  abbrev writes : List Stroke
  writes = page_writes (is_chosen s) (committed_in t) 0 h.pages

  abbrev from_head : List Stroke
  from_head = headed (head_at (head_shape h) (suc h.round))

  abbrev from_writes : List Stroke
  from_writes = writes ++ (Flush 0 ∷ from_head)

  by_table : logs ++ from_writes ≡ plan
  by_table = ap (λ w. logs ++ (w ++ (Flush 0 ∷ from_head))) (writes_same (is_chosen s) (is_chosen s) (committed_in t) (contents_in h.pages t) 0 h.pages (λ k l. (refl, content_has h.pages t k (omega arith))))

  onto_logs : Onto plan m (logs ++ from_writes) m
  onto_logs = rw by_table (onto_none plan m)

  pub stops_logs : (k : Meaning) (f : RackFault) → Plays logs m (Some f) k → Plays plan m (Some f) k
  stops_logs k f p = part_refused logs plan from_writes m m k f onto_logs p

  module _ (k₁ : Meaning) (settled : Plays logs m None k₁) where
    onto_writes : Onto plan m from_writes k₁
    onto_writes = part_made logs plan from_writes m m k₁ onto_logs settled

    pub stops_writes : (k : Meaning) (f : RackFault) → Plays writes k₁ (Some f) k → Plays plan m (Some f) k
    stops_writes k f p = part_refused writes plan (Flush 0 ∷ from_head) m k₁ k f onto_writes p

    module _ (k₂ : Meaning) (written : Plays writes k₁ None k₂) where
      onto_flush : Onto plan m (Flush 0 ∷ from_head) k₂
      onto_flush = part_made writes plan (Flush 0 ∷ from_head) m k₁ k₂ onto_writes written

      pub stops_flush : (k : Meaning) (f : RackFault) → ◌≡◌ {A = Result (Unit {0}) RackFault} (Err f) (answer (flush_fault k₂ 0)) → k ≡ k₂ → Plays plan m (Some f) k
      stops_flush k f a l = stroke_refused (Flush 0) plan from_head m k₂ k f onto_flush a l

      pub ends_head : (k₃ n : Meaning) (q : Result (Unit {0}) RackFault) → ◌≡◌ {A = Result (Unit {0}) RackFault} (Ok tt) (answer (flush_fault k₂ 0)) → Early (flushed k₂ 0) k₃ →
          Plays from_head k₃ (result_err q) n → Plays plan m (result_err q) n
      ends_head k₃ n q a l p = last_part from_head plan m k₃ n q (stroke_made (Flush 0) plan from_head m k₂ k₃ onto_flush a l) p
