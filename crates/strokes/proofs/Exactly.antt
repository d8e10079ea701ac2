-- A plan whose strokes have their places is made up to as many strokes as are left, and is refused for no other reason.
use Rattle.std.proofs.Common.{◌≡◌, ℕ, zero, suc, ◌-◌, true, cond, eqb, leb, List, [], ◌∷◌, ◌++◌, length, take, Some, None, Option, refl, ◌∙◌, arith}
use lib.Dec.{leb-zero, leb-suc-zero, leb-suc-suc}
use Rattle.std.proofs.lemmas.Bool.{and_parts, eq-eqb, ne_eqb}
use Rattle.rack.specs.declared.RackFault.{RackFault}
use Rattle.rack.specs.declared.RackFault.TheVariants.{NoStroke}
use Rattle.rack.specs.Meaning.{Meaning, Early, Alike}
use Rattle.rack.specs.Answers.{stroke_fault, within}
use Rattle.strokes.specs.declared.Stroke.{Stroke}
use Rattle.strokes.specs.declared.Stroke.TheVariants.{Write, Flush}
use Rattle.strokes.specs.Plan.{effect, fault, Plays, Strokes, placed, Placed, Done}
use Rattle.strokes.proofs.Playing.{alike_stroke}

pub fault_placed : (s : Stroke) (m : Meaning) → placed s m ≡ true → fault s m ≡ stroke_fault m
fault_placed (Write d b v) m p = let q = and_parts (eqb (length v) 512) (within m d b) p in rw (q.0, q.1)
fault_placed (Flush d) m p = rw p

pub one_less : (s : Stroke) (m k : Meaning) → Early (effect s m) k → k.left ≡ m.left - 1
one_less (Write d b v) m k e = e.left
one_less (Flush d) m k e = e.left

-- places hang on the shape alone
placed_alike : (s : Stroke) (m k : Meaning) → Alike m k → placed s k ≡ placed s m
placed_alike (Write d b v) m k a = rw (a.count, a.size d)
placed_alike (Flush d) m k a = rw a.count

pub all_placed_alike : (ss : List Stroke) (m k : Meaning) → Alike m k → Placed ss m → Placed ss k
unfolding Placed
all_placed_alike [] m k a p = tt
all_placed_alike (s ∷ ss) m k a p = (placed_alike s m k a ∙ p.0, all_placed_alike ss m k a p.1)

pub placed_append : (xs ys : List Stroke) (m : Meaning) → Placed xs m → Placed ys m → Placed (xs ++ ys) m
unfolding Placed
placed_append [] ys m p q = q
placed_append (x ∷ xs) ys m p q = (p.0, placed_append xs ys m p.1 q)

takes : (plan : List Stroke) (l : ℕ) (m : Meaning) (r : Option RackFault) (n : Meaning) → m.left ≡ l → Placed plan m → Plays plan m r n →
    (r ≡ cond (leb (length plan) l) None (Some NoStroke)) × Strokes (take l plan) m n
unfolding Plays Strokes Placed
takes [] zero m r n e p y = y
takes [] (suc l) m r n e p y = (rw leb-zero y.0, y.1)
takes (s ∷ ss) zero m r n e p y =
    let z = rw (fault_placed s m p.0, eq-eqb m.left 0 e) at y in
    (rw (leb-suc-zero (length ss)) z.0, z.1)
takes (s ∷ ss) (suc l) m r n e p y =
    let z = rw (fault_placed s m p.0, ne_eqb m.left 0 (λ z. omega arith)) at y in
    let k = z.0 in
    let w = takes ss l k r n (one_less s m k z.1 ∙ omega arith) (all_placed_alike ss m k (alike_stroke s m k z.1) p.1) z.2 in
    (rw (leb-suc-suc (length ss) l) w.0, (k, z.1, w.1))

pub done_from_plays : (plan : List Stroke) (m : Meaning) (r : Option RackFault) (n : Meaning) → Placed plan m → Plays plan m r n → Done plan m r n
done_from_plays plan m r n p y = let w = takes plan m.left m r n refl p y in record { answers = w.0; leaves = w.1 }
