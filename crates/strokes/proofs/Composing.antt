-- One plan after another, as contracts speak of plans.
use Rattle.std.proofs.Common.{◌≡◌, ℕ, ◌+◌, ◌-◌, ◌<◌, ◌≤◌, Bool, true, false, cond, leb, List, [], ◌∷◌, ◌++◌, length, take, Some, None, Option, refl, ap, ◌∙◌, arith}
use lib.Seq.{take-append-add}
use Rattle.std.proofs.lemmas.Bool.{leb-true, leb-false}
use Rattle.std.proofs.lemmas.Bool.Decides.{nat_tests}
use Rattle.std.proofs.lemmas.List.{take_all, take-append-le, length-append}
use Rattle.rack.specs.declared.RackFault.{RackFault}
use Rattle.rack.specs.declared.RackFault.TheVariants.{NoStroke}
use Rattle.rack.specs.Meaning.{Meaning}
use Rattle.strokes.specs.declared.Stroke.{Stroke}
use Rattle.strokes.specs.Plan.{Strokes, Done}
use Rattle.strokes.specs.Laws.{PlansCompose}
use Rattle.strokes.proofs.Exactly.{one_less}

pub strokes_left : (xs : List Stroke) (m k : Meaning) → Strokes xs m k → k.left ≡ m.left - length xs
unfolding Strokes
strokes_left [] m k y = rw y (omega arith)
strokes_left (s ∷ xs) m k y = let a = one_less s m y.0 y.1 in let b = strokes_left xs y.0 k y.2 in omega arith

pub strokes_append : (xs ys : List Stroke) (m k n : Meaning) → Strokes xs m k → Strokes ys k n → Strokes (xs ++ ys) m n
unfolding Strokes
strokes_append [] ys m k n x y = rw x at y
strokes_append (s ∷ xs) ys m k n x y = (x.0, x.1, strokes_append xs ys x.0 k n x.2 y)

-- a plan that came to its end had strokes enough, and one that did not had not
pub enough_from : (b : Bool) → ◌≡◌ {A = Option RackFault} None (cond b None (Some NoStroke)) → b ≡ true
enough_from true e = refl
enough_from false e = cc

pub short_from : (b : Bool) (f : RackFault) → ◌≡◌ {A = Option RackFault} (Some f) (cond b None (Some NoStroke)) → b ≡ false
short_from true f e = cc
short_from false f e = refl

take_both : (xs ys : List Stroke) (l : ℕ) → length xs ≤ l → take l (xs ++ ys) ≡ xs ++ take (l - length xs) ys
take_both xs ys l h = let e : l ≡ length xs + (l - length xs) = omega arith in ap (λ j. take j (xs ++ ys)) e ∙ take-append-add xs ys (l - length xs)

pub done_append : (xs ys : List Stroke) (m k : Meaning) (r : Option RackFault) (n : Meaning) → Done xs m None k → Done ys k r n → Done (xs ++ ys) m r n
done_append xs ys m k r n x y =
    let h : length xs ≤ m.left = leb-true _ _ (enough_from (leb (length xs) m.left) x.answers) in
    let a : Strokes xs m k = rw (take_all m.left xs h) at x.leaves in
    let l = strokes_left xs m k a in
    let t : leb (length ys) k.left ≡ leb (length (xs ++ ys)) m.left = rw length-append (grind (arith, nat_tests)) in
    let b : Strokes (take (m.left - length xs) ys) k n = rw (← l) y.leaves in
    record { answers = rw t at y.answers; leaves = rw (take_both xs ys m.left h) (strokes_append xs (take (m.left - length xs) ys) m k n a b) }

pub done_short : (xs ys : List Stroke) (m k : Meaning) (f : RackFault) → Done xs m (Some f) k → Done (xs ++ ys) m (Some f) k
done_short xs ys m k f x =
    let h : m.left < length xs = leb-false _ _ (short_from (leb (length xs) m.left) f x.answers) in
    let t : leb (length xs) m.left ≡ leb (length (xs ++ ys)) m.left = rw length-append (grind (arith, nat_tests)) in
    let q : m.left ≤ length xs = omega arith in
    record { answers = rw t at x.answers; leaves = rw take-append-le x.leaves }

pub plans_compose : PlansCompose
plans_compose xs ys m k n r f = (done_append xs ys m k r n, done_short xs ys m k f)
