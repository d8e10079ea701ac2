-- Each place of a list keeps the latest of what came to it.
use Rattle.std.proofs.Common.{◌≡◌, ℕ, ◌<◌, Bool, cond, eqb, List, [], ◌∷◌, length, get_or, sym, refl, ◌∙◌, inl, inr, arith, rules}
use Rattle.std.proofs.lemmas.List.{length-set, get_or_default, same_lists}
use Rattle.std.proofs.lemmas.Grind.{common_steps}
use Rattle.std.proofs.lemmas.Bool.{cases_Bool, eqb-true, eq-eqb}
use Rattle.later.specs.Order.{TotalOrder}
use Rattle.later.specs.Keeping.{later, latest, kept_later, kept_all, came_to, Among, SameMembers, KeepsTheLatest}
use Rattle.later.proofs.Keeping.{met, none_later, same}

module _ {V : Type 0} (upto : V → V → Bool) where
  pub length_kept_all : (l : List V) (cs : List (ℕ × V)) → length (kept_all upto l cs) ≡ length l
  length_kept_all l [] = refl
  length_kept_all l (c ∷ cs) = length_kept_all (kept_later upto l c.0 c.1) cs ∙ length-set l c.0 _

  -- a value that came to another place changes nothing here
  pub place_kept : (l : List V) (j i : ℕ) (x d : V) → i < length l → get_or (kept_later upto l j x) i d ≡ cond (eqb j i) (later upto (get_or l i d) x) (get_or l i d)
  place_kept l j i x d h = let e = get_or_default l i x d h in grind (arith, common_steps)

  pub places : (l : List V) (cs : List (ℕ × V)) (i : ℕ) (d : V) → i < length l → get_or (kept_all upto l cs) i d ≡ latest upto (get_or l i d) (came_to i cs)
  places l [] i d h = refl
  places l (c ∷ cs) i d h =
      let p = places (kept_later upto l c.0 c.1) cs i d (simp length-set h) in
      let k = place_kept l c.0 i c.1 d h in
      let b = cases_Bool (eqb c.0 i) in
      search rules

module _ {V : Type 0} where
  -- to come to a place, and to be among what came to it, are one
  pub came_among : (i : ℕ) (x : V) (cs : List (ℕ × V)) → Among (i, x) cs → Among x (came_to i cs)
  came_among i x [] m = absurd m
  came_among i x (c ∷ cs) (inl e) = rw (eq-eqb c.0 i (cc)) (inl (cc))
  came_among i x (c ∷ cs) (inr m) = let f = came_among i x cs m in let b = cases_Bool (eqb c.0 i) in search rules

  pub among_came : (i : ℕ) (x : V) (cs : List (ℕ × V)) → Among x (came_to i cs) → Among (i, x) cs
  among_came i x [] m = absurd m
  among_came i x (c ∷ cs) m = let f = among_came i x cs in let b = cases_Bool (eqb c.0 i) in search (rules, eqb-true)

  pub came_same : (i : ℕ) (cs ds : List (ℕ × V)) → SameMembers cs ds → SameMembers (came_to i cs) (came_to i ds)
  came_same i cs ds f x = (λ m. came_among i x ds ((f (i, x)).0 (among_came i x cs m)), λ m. came_among i x cs ((f (i, x)).1 (among_came i x ds m)))

module _ {V : Type 0} {upto : V → V → Bool} (o : TotalOrder upto) where
  same_list : (l : List V) (cs ds : List (ℕ × V)) → SameMembers cs ds → kept_all upto l cs ≡ kept_all upto l ds
  same_list l cs ds f =
      same_lists _ _ (length_kept_all upto l cs ∙ sym (length_kept_all upto l ds)) (λ i d h.
      let g : i < length l = rw (length_kept_all upto l cs) at h in
      places upto l cs i d g ∙ same o (get_or l i d) _ _ (came_same i cs ds f) ∙ sym (places upto l ds i d g))

  pub keeps_the_latest : KeepsTheLatest upto
  keeps_the_latest = record { met = met o; none_later = none_later o; same = same o; places = places upto; same_list = same_list }
