-- What a call does, from the way in which its code ended: refused at once, played to the end, or out of strokes.
use Rattle.std.proofs.Common.{◌≡◌, ◌≤◌, true, leb, List, [], length, Some, None, refl, arith}
use lib.Dec.{leb-zero}
use Rattle.std.proofs.lemmas.List.{take_all}
use Rattle.std.proofs.lemmas.Bool.{leb-true}
use Rattle.rack.specs.declared.RackFault.{RackFault}
use Rattle.rack.specs.Meaning.{Meaning}
use Rattle.strokes.specs.declared.Stroke.{Stroke}
use Rattle.strokes.specs.Plan.{Strokes, Plays, Placed}
use Rattle.strokes.proofs.Exactly.{done_from_plays}
use Rattle.strokes.proofs.Composing.{enough_from, short_from}
use Rattle.model.specs.declared.Refusal.{Refusal}
use Rattle.model.specs.declared.Refusal.TheVariants.{OutOfStrokes}
use Rattle.model.specs.Store.{Store}
use Rattle.model.specs.Outcome.{Outcome, Reply, refused, Does}

pub does_refused : (o : Outcome) (s : Store) (m : Meaning) (f : Refusal) → o.fault ≡ Some f → Does o s m (refused f) s m
unfolding Strokes
does_refused o s m f e = record { replies = rw e; becomes = rw e; leaves = rw e refl }

pub does_all : (o : Outcome) (s : Store) (m n : Meaning) → o.fault ≡ None → Placed o.plan m → Plays o.plan m None n → Does o s m o.reply o.good n
does_all o s m n e p y =
    let d = done_from_plays o.plan m None n p y in
    let t = enough_from (leb (length o.plan) m.left) d.answers in
    record { replies = rw (e, t); becomes = rw (e, t); leaves = rw e d.leaves }

pub does_short : (o : Outcome) (s : Store) (m n : Meaning) (f : RackFault) → o.fault ≡ None → Placed o.plan m → Plays o.plan m (Some f) n → Does o s m (refused OutOfStrokes) o.short n
does_short o s m n f e p y =
    let d = done_from_plays o.plan m (Some f) n p y in
    let t = short_from (leb (length o.plan) m.left) f d.answers in
    record { replies = rw (e, t); becomes = rw (e, t); leaves = rw e d.leaves }

-- a plan that came to its end was made whole, and its strokes lasted
pub all_strokes : (plan : List Stroke) (m n : Meaning) → Placed plan m → Plays plan m None n → (length plan ≤ m.left) × Strokes plan m n
all_strokes plan m n p y =
    let d = done_from_plays plan m None n p y in
    let h : length plan ≤ m.left = leb-true _ _ (enough_from (leb (length plan) m.left) d.answers) in
    (h, rw (take_all m.left plan h) at d.leaves)

-- a call without strokes that does not refuse
pub does_still : (o : Outcome) (s : Store) (m : Meaning) (r : Reply) (t : Store) → o.fault ≡ None → o.plan ≡ [] → r ≡ o.reply → t ≡ o.good → Does o s m r t m
unfolding Strokes
does_still o s m r t e p q u =
    let none : leb (length o.plan) m.left ≡ true = rw p (leb-zero m.left) in
    record { replies = rw (e, none) q; becomes = rw (e, none) u; leaves = rw (e, p, take_all {A = Stroke} m.left [] (omega arith)) refl }
