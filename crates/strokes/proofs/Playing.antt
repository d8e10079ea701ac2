-- Plans played stroke by stroke. `Onto` is what a loop keeps: what is left of the plan, and where it has led.
use Rattle.std.proofs.Common.{◌≡◌, List, [], ◌∷◌, ◌++◌, Some, None, Ok, Err, Option, Result, refl, subst, MatchOption}
use Rattle.std.specs.Result.{result_err}
use Rattle.rack.specs.declared.RackFault.{RackFault}
use Rattle.rack.specs.Meaning.{Meaning, Early, Alike}
use Rattle.rack.specs.Answers.{Leaves, answer}
use Rattle.rack.proofs.Settling.{alike_refl, alike_trans}
use Rattle.strokes.specs.declared.Stroke.{Stroke}
use Rattle.strokes.specs.declared.Stroke.TheVariants.{Write, Flush}
use Rattle.strokes.specs.Plan.{effect, fault, Plays}

by_cases : {T : Type 0} {P R : Type 0} {Q S : T → Type 0} (o : Option T) → (P → R) → ((x : T) → Q x → S x) → MatchOption o P Q → MatchOption o R S
by_cases None f g p = f p
by_cases (Some x) f g p = g x p

one_of : {T : Type 0} {P R : Type 0} {Q : T → Type 0} (o : Option T) → (P → R) → ((x : T) → Q x → R) → MatchOption o P Q → R
one_of None f g p = f p
one_of (Some x) f g p = g x p

-- no stroke changes the shape
pub alike_stroke : (s : Stroke) (m k : Meaning) → Early (effect s m) k → Alike m k
alike_stroke (Write d b v) m k e = record { count = e.alike.count; size = e.alike.size }
alike_stroke (Flush d) m k e = record { count = e.alike.count; size = e.alike.size }

pub alike_plays : (xs : List Stroke) (m : Meaning) (r : Option RackFault) (n : Meaning) → Plays xs m r n → Alike m n
unfolding Plays
alike_plays [] m r n p = rw p.1 (alike_refl m)
alike_plays (s ∷ xs) m r n p =
    one_of (fault s m)
    (λ w. alike_trans m w.0 n (alike_stroke s m w.0 w.1) (alike_plays xs w.0 r n w.2))
    (λ f w. rw w.1 (alike_refl m))
    p

-- all of the plan but `rest` has been played from m on, which led to k
pub record Onto (plan : List Stroke) (m : Meaning) (rest : List Stroke) (k : Meaning) : Type 0 where
  pub alike : Alike m k
  pub go : (r : Option RackFault) (n : Meaning) → Plays rest k r n → Plays plan m r n

pub onto_none : (plan : List Stroke) (m : Meaning) → Onto plan m plan m
onto_none plan m = record { alike = alike_refl m; go = λ r n p. p }

pub onto_all : (plan : List Stroke) (m k : Meaning) → Onto plan m [] k → Plays plan m None k
unfolding Plays
onto_all plan m k o = o.go None k (refl, refl)

-- a call's answer tells its fault
fault_of_ok : (o : Option RackFault) → ◌≡◌ {A = Result (Unit {0}) RackFault} (Ok tt) (answer o) → o ≡ None
fault_of_ok None e = refl
fault_of_ok (Some f) e = cc

fault_of_err : (o : Option RackFault) (f : RackFault) → ◌≡◌ {A = Result (Unit {0}) RackFault} (Err f) (answer o) → o ≡ Some f
fault_of_err None f e = cc
fault_of_err (Some g) f e = cc

-- a stroke that was made takes its place from what is left of the plan
pub stroke_made : (s : Stroke) (plan rest : List Stroke) (m k n : Meaning) → Onto plan m (s ∷ rest) k →
    ◌≡◌ {A = Result (Unit {0}) RackFault} (Ok tt) (answer (fault s k)) → Early (effect s k) n → Onto plan m rest n
unfolding Plays
stroke_made s plan rest m k n o e l = record {
  alike = alike_trans m k n o.alike (alike_stroke s k n l);
  go = λ r z p. o.go r z (rw (fault_of_ok (fault s k) e) (n, l, p));
}

-- one that was refused ends the play
pub stroke_refused : (s : Stroke) (plan rest : List Stroke) (m k n : Meaning) (f : RackFault) → Onto plan m (s ∷ rest) k →
    ◌≡◌ {A = Result (Unit {0}) RackFault} (Err f) (answer (fault s k)) → n ≡ k → Plays plan m (Some f) n
unfolding Plays
stroke_refused s plan rest m k n f o e l = o.go (Some f) n (rw (fault_of_err (fault s k) f e) (refl, l))

-- one plan after another
pub onto_part : (xs ys : List Stroke) (m k : Meaning) → Plays xs m None k → Onto (xs ++ ys) m ys k
unfolding Plays
onto_part [] ys m k p = record { alike = alike_plays [] m None k p; go = λ r n q. subst (λ (x : Meaning). Plays ys x r n) p.1 q }
onto_part (s ∷ xs) ys m k p = record {
  alike = alike_plays (s ∷ xs) m None k p;
  go = λ r n q. by_cases (fault s m) (λ w. (w.0, w.1, (onto_part xs ys w.0 k w.2).go r n q)) (λ f w. absurd cc) p;
}

-- a play that was refused goes no further, however the plan goes on
pub refused_part : (xs ys : List Stroke) (m k : Meaning) (f : RackFault) → Plays xs m (Some f) k → Plays (xs ++ ys) m (Some f) k
unfolding Plays
refused_part [] ys m k f p = absurd cc
refused_part (s ∷ xs) ys m k f p = by_cases (fault s m) (λ w. (w.0, w.1, refused_part xs ys w.0 k f w.2)) (λ g w. w) p

-- a call that plays a part of what is left
pub part_made : (xs plan rest : List Stroke) (m k n : Meaning) → Onto plan m (xs ++ rest) k → Plays xs k None n → Onto plan m rest n
part_made xs plan rest m k n o p = record {
  alike = alike_trans m k n o.alike (alike_plays xs k None n p);
  go = λ r z q. o.go r z ((onto_part xs rest k n p).go r z q);
}

pub part_refused : (xs plan rest : List Stroke) (m k n : Meaning) (f : RackFault) → Onto plan m (xs ++ rest) k → Plays xs k (Some f) n → Plays plan m (Some f) n
part_refused xs plan rest m k n f o p = o.go (Some f) n (refused_part xs rest k n f p)

-- a plan's last stroke, whose answer is handed on
pub last_stroke : (s : Stroke) (plan : List Stroke) (m k n : Meaning) (q : Result (Unit {0}) RackFault) → Onto plan m (s ∷ []) k →
    q ≡ answer (fault s k) → Leaves q (effect s k) k n → Plays plan m (result_err q) n
last_stroke s plan m k n (Ok u) o e l = onto_all plan m n (stroke_made s plan [] m k n o e l)
last_stroke s plan m k n (Err f) o e l = stroke_refused s plan [] m k n f o e l

-- a plan's last part, whose answer is handed on
pub last_part : (xs plan : List Stroke) (m k n : Meaning) (q : Result (Unit {0}) RackFault) → Onto plan m (xs ++ []) k → Plays xs k (result_err q) n → Plays plan m (result_err q) n
last_part xs plan m k n (Ok u) o p = onto_all plan m n (part_made xs plan [] m k n o p)
last_part xs plan m k n (Err f) o p = part_refused xs plan [] m k n f o p
