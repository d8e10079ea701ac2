-- Neither the order in which logs are taken nor how often counts for the marks.
use Rattle.std.proofs.Common.{◌≡◌, ℕ, true, ◌⊎◌, List, [], ◌∷◌, ◌++◌, get_or, sym, refl, subst, inl, inr, ⊎_elim}
use Rattle.later.specs.declared.Mark.{Mark}
use Rattle.later.specs.Keeping.{came_to, Among, KeepsTheLatest}
use Rattle.later.specs.Stamps.{mark_upto}
use Rattle.later.proofs.Places.{keeps_the_latest}
use Rattle.later.specs.Marks.{marks_ordered}
use Rattle.model.specs.Laws.{Logs, offers_on, all_offers, AnyOrder, LargestStays}

law : KeepsTheLatest mark_upto
law = keeps_the_latest marks_ordered

among_left : {V : Type 0} (x : V) (xs ys : List V) → Among x xs → Among x (xs ++ ys)
among_left x [] ys p = absurd p
among_left x (z ∷ xs) ys p = ⊎_elim (λ q. inl q) (λ q. inr (among_left x xs ys q)) p

among_right : {V : Type 0} (x : V) (xs ys : List V) → Among x ys → Among x (xs ++ ys)
among_right x [] ys p = p
among_right x (z ∷ xs) ys p = inr (among_right x xs ys p)

among_parts : {V : Type 0} (x : V) (xs ys : List V) → Among x (xs ++ ys) → Among x xs ⊎ Among x ys
among_parts x [] ys p = inr p
among_parts x (z ∷ xs) ys p = ⊎_elim (λ q. inl (inl q)) (λ q. ⊎_elim (λ r. inl (inr r)) (λ r. inr r) (among_parts x xs ys q)) p

-- a mark is offered where one of the logs offers it
offered_by : (l : Logs) (x : ℕ × Mark) (d : ℕ) (ds : List ℕ) → Among d ds → Among x (offers_on l d) → Among x (all_offers l ds)
offered_by l x d [] p q = absurd p
offered_by l x d (e ∷ ds) p q =
    ⊎_elim
    (λ (s : d ≡ e). among_left x (offers_on l e) (all_offers l ds) (rw s at q))
    (λ r. among_right x (offers_on l e) (all_offers l ds) (offered_by l x d ds r q))
    p

some_offers : (l : Logs) (x : ℕ × Mark) (ds : List ℕ) → Among x (all_offers l ds) → (d : ℕ) × Among d ds × Among x (offers_on l d)
some_offers l x [] p = absurd p
some_offers l x (e ∷ ds) p =
    ⊎_elim
    (λ q. (e, inl refl, q))
    (λ q. let w = some_offers l x ds q in (w.0, inr w.1, w.2))
    (among_parts x (offers_on l e) (all_offers l ds) p)

moved : (l : Logs) (ds es : List ℕ) → ((d : ℕ) → Among d ds → Among d es) → (x : ℕ × Mark) → Among x (all_offers l ds) → Among x (all_offers l es)
moved l ds es f x p = let w = some_offers l x ds p in offered_by l x w.0 es (f w.0 w.1) w.2

pub any_order : AnyOrder
unfolding law
any_order l ks ds es same = law.same_list ks (all_offers l ds) (all_offers l es) (λ x. (moved l ds es (λ d. (same d).0) x, moved l es ds (λ d. (same d).1) x))

pub largest_stays : LargestStays
unfolding law
largest_stays l ks ds i none h =
    let e = law.places ks (all_offers l ds) i none h in
    let k = get_or ks i none in
    let cs = came_to i (all_offers l ds) in (
      subst (λ (v : Mark). Among v (k ∷ cs)) (sym e) (law.met k cs),
      λ x p. subst (λ (v : Mark). mark_upto x v ≡ true) (sym e) (law.none_later k cs x p),
    )
