-- What a set reads, and who holds a page, over any changes.
use Rattle.std.proofs.Common.{◌≡◌, ℕ, ◌≤◌, false, cond, not, ◌&&◌, eqb, ◌⊎◌, List, [], ◌∷◌, length, sym, refl, ap, ◌∙◌, ⊎_elim, arith}
use Rattle.std.proofs.lemmas.Bool.{eqb-true, eq-eqb, eqb-false, cond_both}
use Rattle.std.proofs.lemmas.Bool.Decides.{nat_tests}
use Rattle.rack.specs.Meaning.{Meaning}
use Rattle.change.specs.declared.runs.Pair.{Pair}
use Rattle.change.specs.Edits.{overlaid}
use Rattle.later.specs.Keeping.{Among}
use Rattle.model.specs.Store.{Page, Warm}
use Rattle.model.specs.Warming.{changed, shown, shown_to}
use Rattle.model.specs.Consistent.{Consistent}
use Rattle.model.specs.WarmLaws.{Edit, after, Answers, own, ReadsOwnChanges, OneHolder, AlwaysRoom}
use Rattle.model.proofs.Consistency.{Passed, change_passed, change_consistent}
use Rattle.model.proofs.Rooms.{home_range, home_room}
use Rattle.model.proofs.OpenSets.{some_open}

-- a page that no other set holds is held by nobody or by the set itself
free_for : (h s : ℕ) → (not (eqb h 0) && not (eqb h s)) ≡ false → (h ≡ 0) ⊎ (h ≡ s)
free_for h s e = grind (arith, nat_tests)

-- the page g is changed by the set t
module _ (g : Page) (t : ℕ) (ps : List Pair) (bs : List ℕ) (some : 1 ≤ t) (rest : g.holder ≡ 0 → g.working ≡ g.committed) (held : (g.holder ≡ 0) ⊎ (g.holder ≡ t)) where
  -- the set reads its change over what it read
  shown_self : shown t (changed t ps bs g) ≡ overlaid ps bs (shown t g)
  shown_self = grind (arith, nat_tests, rest)

  -- others read what they read
  shown_other : (s : ℕ) → (t ≡ s → ⊥) → shown s (changed t ps bs g) ≡ shown s g
  shown_other s n = grind (arith, nat_tests)

-- one change that is answered
module _ (w : Warm) (e : Edit) (m : Meaning) (c : Consistent w) (y : Passed w e.set e.page e.pairs (length e.bytes) m) where
  some_set : 1 ≤ e.set
  some_set = (c.5 e.set y.open_set).0

  at_page : (s : ℕ) → shown s (changed e.set e.pairs e.bytes (w.page e.page)) ≡ cond (eqb e.set s) (overlaid e.pairs e.bytes (shown s (w.page e.page))) (shown s (w.page e.page))
  at_page s = cond_both (eqb e.set s) _ _ (λ x. shown s (changed e.set e.pairs e.bytes (w.page e.page)) ≡ x)
      (λ t. rw (← eqb-true e.set s t) (shown_self (w.page e.page) e.set e.pairs e.bytes some_set (c.8 e.page) held))
      (λ t. shown_other (w.page e.page) e.set e.pairs e.bytes some_set (c.8 e.page) held s (eqb-false e.set s t))
    where
      held : ((w.page e.page).holder ≡ 0) ⊎ ((w.page e.page).holder ≡ e.set)
      held = free_for (w.page e.page).holder e.set y.not_held

  reads_step : (s p : ℕ) → shown_to (after w e) s p ≡ cond (eqb e.set s && eqb e.page p) (overlaid e.pairs e.bytes (shown_to w s p)) (shown_to w s p)
  reads_step s p = grind (arith, nat_tests, at_page s)

pub reads_own_changes : ReadsOwnChanges
reads_own_changes w v [] s p c a = ap (λ (x : Warm). shown_to x s p) a
reads_own_changes w v (e ∷ es) s p c a =
    let y = change_passed w e.set e.page e.pairs (length e.bytes) a.0.0 a.0.1 in
    reads_own_changes (after w e) v es s p (change_consistent w e.set e.page e.pairs e.bytes (length e.bytes) a.0.0 c y) a.1 ∙ ap (own s p es) (reads_step w e a.0.0 c y s p)

-- a page that a set holds stays with it, and no other set's change of it is answered
still_held : (es : List Edit) (w v : Warm) (s p : ℕ) → 1 ≤ s → (w.page p).holder ≡ s → Answers w es v → (f : Edit) → Among f es → f.page ≡ p → f.set ≡ s
still_held [] w v s p n h a f i q = absurd i
still_held (e ∷ es) w v s p n h a f i q = ⊎_elim
    (λ (k : f ≡ e). rw k (mine (rw k at q)))
    (λ k. still_held es (after w e) v s p n kept_on a.1 f k q)
    i
  where
    y : Passed w e.set e.page e.pairs (length e.bytes) a.0.0
    y = change_passed w e.set e.page e.pairs (length e.bytes) a.0.0 a.0.1

    mine : e.page ≡ p → e.set ≡ s
    mine k =
        let there : (w.page e.page).holder ≡ s = rw k h in
        ⊎_elim (λ (z : (w.page e.page).holder ≡ 0). absurd (omega arith)) (λ z. sym z ∙ there) (free_for (w.page e.page).holder e.set y.not_held)

    kept_on : ((after w e).page p).holder ≡ s
    kept_on = cond_both (eqb p e.page) _ _ (λ (g : Page). g.holder ≡ s) (λ t. mine (sym (eqb-true p e.page t))) (λ t. h)

pub one_holder : OneHolder
one_holder w v e f es c a i q =
    let y = change_passed w e.set e.page e.pairs (length e.bytes) a.0.0 a.0.1 in
    let t = eq-eqb e.page e.page refl in
    let h : ((after w e).page e.page).holder ≡ e.set = rw t refl in
    still_held es (after w e) v e.set e.page (c.5 e.set y.open_set).0 h a.1 f i q

pub always_room : AlwaysRoom
always_room w s c o =
    let room = c.3 in
    let some = some_open w.sets s o in
    let r = home_range w c.2 in
    (room, r.0, r.1, home_room w c.2 (omega arith))
