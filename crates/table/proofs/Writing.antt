-- The flushes of the logs and the writes of the chosen pages, one by one.
use Rattle.std.proofs.Common.{◌≡◌, ℕ, zero, suc, ◌+◌, ◌-◌, ◌<◌, ◌≤◌, Bool, true, false, cond, List, [], ◌∷◌, ◌++◌, length, get_or, ◌⊎◌, ⊎_elim, Some, None, Ok, Err, Result, subst, refl, add-one, arith}
use Rattle.std.proofs.lemmas.List.{get_or_past}
use Rattle.std.specs.Result.{result_err}
use Rattle.rack.specs.declared.RackFault.{RackFault}
use Rattle.rack.specs.Meaning.{Meaning, Early, flushed}
use Rattle.rack.specs.Answers.{answer, Leaves, flush_fault}
use Rattle.block.specs.Pages.{page_block}
use Rattle.strokes.specs.declared.Stroke.{Stroke}
use Rattle.strokes.specs.declared.Stroke.TheVariants.{Write, Flush}
use Rattle.strokes.specs.Plan.{effect, fault, Plays}
use Rattle.strokes.proofs.Playing.{Onto, onto_none, onto_all, stroke_made, stroke_refused, part_made, part_refused, last_stroke}
use Rattle.model.specs.Rounds.{flushes, page_writes}
use Rattle.pages.specs.declared.Page.{Page}
use Rattle.pages.specs.Pages.{no_page, committed_in}
use Rattle.table.specs.Pages.{is_chosen}

flushes_more : (d end : ℕ) → d < end → flushes d (end - d) ≡ Flush d ∷ flushes (d + 1) (end - (d + 1))
unfolding flushes
flushes_more d end h = let e : end - d ≡ suc (end - (d + 1)) = omega arith in rw (e, add-one)

flushes_all : (d end : ℕ) → end ≤ d → flushes d (end - d) ≡ []
unfolding flushes
flushes_all d end h = let e : end - d ≡ 0 = omega arith in rw e

module _ (logs : ℕ) (m : Meaning) where
  abbrev plan : List Stroke
  plan = flushes 1 logs

  -- the logs before d are flushed, which led to k
  abbrev pub Flushing : ℕ → Meaning → Type 0
  Flushing d k = Onto plan m (flushes d (suc logs - d)) k

  pub flushing_more : (d : ℕ) (k n : Meaning) → d ≤ logs → Flushing d k → ◌≡◌ {A = Result (Unit {0}) RackFault} (Ok tt) (answer (flush_fault k d)) → Early (flushed k d) n → Flushing (d + 1) n
  flushing_more d k n h o a l = stroke_made (Flush d) plan (flushes (d + 1) (suc logs - (d + 1))) m k n (rw (flushes_more d (suc logs) (omega arith)) at o) a l

  pub flushing_stops : (d : ℕ) (k n : Meaning) (f : RackFault) → d ≤ logs → Flushing d k → ◌≡◌ {A = Result (Unit {0}) RackFault} (Err f) (answer (flush_fault k d)) → n ≡ k → Plays plan m (Some f) n
  flushing_stops d k n f h o a l = stroke_refused (Flush d) plan (flushes (d + 1) (suc logs - (d + 1))) m k n f (rw (flushes_more d (suc logs) (omega arith)) at o) a l

  pub flushing_all : (d : ℕ) (k : Meaning) → logs < d → Flushing d k → Plays plan m None k
  flushing_all d k h o = onto_all plan m k (rw (flushes_all d (suc logs) (omega arith)) at o)

-- only what is said of the pages in the range counts
pub writes_same : (f g : ℕ → Bool) (c d : ℕ → List ℕ) (p n : ℕ) → ((k : ℕ) → k < p + n → (f k ≡ g k) × (c k ≡ d k)) → page_writes f c p n ≡ page_writes g d p n
unfolding page_writes
writes_same f g c d p zero same = refl
writes_same f g c d p (suc n) same =
    let here = same p (omega arith) in
    let rest = writes_same f g c d (suc p) n (λ k h. same k (omega arith)) in
    cc (here.0, here.1)

module _ (s : List Bool) (t : List Page) where
  abbrev writes : ℕ → ℕ → List Stroke
  writes = page_writes (is_chosen s) (committed_in t)

  abbrev write : ℕ → Stroke
  write p = Write 0 (suc p) (page_block (committed_in t p))

  -- one page: one stroke where it is chosen, else none
  pub page_written : (p : ℕ) (page : ℕ) (content : Page) (m n : Meaning) (q : Result (Unit {0}) RackFault) → page ≡ p → get_or t p no_page ≡ content → get_or s p false ≡ true →
      q ≡ answer (fault (Write 0 (suc page) (page_block content.committed)) m) → Leaves q (effect (Write 0 (suc page) (page_block content.committed)) m) m n →
      Plays (writes p 1) m (result_err q) n
  unfolding page_writes
  page_written p page content m n q here this e a l =
      let same : Write 0 (suc page) (page_block content.committed) ≡ write p = cc in
      rw e (last_stroke (write p) (write p ∷ []) m m n q (onto_none (write p ∷ []) m)
      (subst (λ (w : Stroke). q ≡ answer (fault w m)) same a) (subst (λ (w : Stroke). Leaves q (effect w m) m n) same l))

  pub page_passed : (p : ℕ) (m : Meaning) → get_or s p false ≡ false → Plays (writes p 1) m None m
  unfolding page_writes Plays
  page_passed p m e = rw e (refl, refl)

  -- the writes begin with that of the first page, if it is chosen
  writes_first : (p n : ℕ) → writes p (suc n) ≡ writes p 1 ++ writes (suc p) n
  unfolding page_writes
  writes_first p n =
      elim (get_or s p false) as (λ b. cond b (write p ∷ writes (suc p) n) (writes (suc p) n) ≡ cond b (write p ∷ []) [] ++ writes (suc p) n) [ true ↦ refl | false ↦ refl ]

  writes_more : (p end : ℕ) → p < end → writes p (end - p) ≡ writes p 1 ++ writes (p + 1) (end - (p + 1))
  writes_more p end h = let e : end - p ≡ suc (end - (p + 1)) = omega arith in rw e (rw add-one (writes_first p (end - suc p)))

  writes_all : (p end : ℕ) → end ≤ p → writes p (end - p) ≡ []
  unfolding page_writes
  writes_all p end h = let e : end - p ≡ 0 = omega arith in rw e

  -- no page past the flags is chosen
  writes_past : (p n : ℕ) → length s ≤ p → writes p n ≡ []
  unfolding page_writes
  writes_past p zero h = refl
  writes_past p (suc n) h = let e : get_or s p false ≡ false = get_or_past s p false h in rw e (writes_past (suc p) n (omega arith))

  module _ (pages : ℕ) (m : Meaning) where
    -- the chosen ones of the pages before p are written, which led to k
    abbrev pub Writing : ℕ → Meaning → Type 0
    Writing p k = Onto (writes 0 pages) m (writes p (pages - p)) k

    pub writing_more : (p : ℕ) (k n : Meaning) → p < pages → Writing p k → Plays (writes p 1) k None n → Writing (p + 1) n
    writing_more p k n h o w = part_made (writes p 1) (writes 0 pages) (writes (p + 1) (pages - (p + 1))) m k n (rw (writes_more p pages h) at o) w

    pub writing_stops : (p : ℕ) (k n : Meaning) (f : RackFault) → p < pages → Writing p k → Plays (writes p 1) k (Some f) n → Plays (writes 0 pages) m (Some f) n
    writing_stops p k n f h o w = part_refused (writes p 1) (writes 0 pages) (writes (p + 1) (pages - (p + 1))) m k n f (rw (writes_more p pages h) at o) w

    pub writing_all : (p : ℕ) (k : Meaning) → length s ≡ 64 → (pages ≤ p) ⊎ (64 ≤ p) → Writing p k → Plays (writes 0 pages) m None k
    writing_all p k long over o =
        onto_all (writes 0 pages) m k (rw (⊎_elim (λ (h : pages ≤ p). writes_all p pages h) (λ (h : 64 ≤ p). writes_past p (pages - p) (omega arith)) over) at o)
