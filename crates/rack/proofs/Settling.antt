-- Laws of settled values.
use Rattle.std.proofs.Common.{◌≡◌, ℕ, Bool, true, false, cond, ◌&&◌, eqb, List, [], ◌∷◌, ◌++◌, Some, Option, refl, ◌∙◌, append_assoc}
use Rattle.rack.specs.Meaning.{Meaning, Slot, Block, last_or, newest, more, calm, Settles, Alike, Early, written, flushed}
use Rattle.rack.specs.Cut.{CutSlot, Cut}
use Rattle.rack.specs.Cut.CutSlot.{keeps, lands, tears}

pub last_or-++ : (o : Option Block) (xs ys : List Block) → last_or o (xs ++ ys) ≡ last_or (last_or o xs) ys
last_or-++ o [] ys = refl
last_or-++ o (x ∷ xs) ys = last_or-++ (Some x) xs ys

pub settles_same : (s : Slot) → Settles s s
settles_same s = record { gone = []; parts = refl; stands = refl }

pub settles_then : (s t u : Slot) → Settles s t → Settles t u → Settles s u
settles_then s t u p q = record {
  gone = p.gone ++ q.gone;
  parts = rw append_assoc (rw q.parts at p.parts);
  stands = rw (last_or-++, ← p.stands) q.stands;
}

pub settles_more : (s t : Slot) (vs : List Block) → Settles s t → Settles (more s vs) (more t vs)
settles_more s t vs p = record { gone = p.gone; parts = rw (p.parts, append_assoc); stands = p.stands }

-- what is read does not change
pub settles_newest : (s t : Slot) → Settles s t → newest t ≡ newest s
settles_newest s t p = rw (p.parts, last_or-++, p.stands)

-- drives and their blocks do not change
pub alike_refl : (m : Meaning) → Alike m m
alike_refl m = record { count = refl; size = λ d. refl }

pub alike_trans : (m k n : Meaning) → Alike m k → Alike k n → Alike m n
alike_trans m k n a b = record { count = b.count ∙ a.count; size = λ d. b.size d ∙ a.size d }

pub early_same : (m : Meaning) → Early m m
early_same m = record { alike = alike_refl m; slot = λ d b p q. settles_same (m.slot d b); left = refl }

pub early_then : (m n k : Meaning) → Early m n → Early n k → Early m k
early_then m n k p q = record {
  alike = alike_trans m n k p.alike q.alike;
  slot = λ d b x y. settles_then (m.slot d b) (n.slot d b) (k.slot d b) (p.slot d b x y) (q.slot d b (rw p.alike.count x) (rw (p.alike.size d) y));
  left = q.left ∙ p.left;
}

-- a value that waits above may also be lost, so what may stand below may stand above
pub cut_more : (d : ℕ) (s t : Slot) (vs : List Block) → CutSlot d s t → CutSlot d (more s vs) t
cut_more d s t vs (keeps p) = keeps p
cut_more d s t vs (lands xs v ys p q) = lands xs v (ys ++ vs) (rw (p, append_assoc)) q
cut_more d s t vs (tears v ys p q r) = tears v (ys ++ vs) p (rw q) r

cond_settles : (t : Bool) (a b c d : Slot) → Settles a c → Settles b d → Settles (cond t a b) (cond t c d)
cond_settles true a b c d p q = p
cond_settles false a b c d p q = q

-- what settles early before a write settles early after it
pub written_early : (m n : Meaning) (d b : ℕ) (v : Block) → Early m n → Early (written m d b v) (written n d b v)
written_early m n d b v p = record {
  alike = record { count = p.alike.count; size = p.alike.size };
  slot = λ e k x y. cond_settles (eqb e d && eqb k b) _ _ _ _ (settles_more _ _ (v ∷ []) (p.slot e k x y)) (p.slot e k x y);
  left = rw p.left;
}

calm_settles : (s t : Slot) → Settles s t → Settles (calm s) (calm t)
calm_settles s t p = record { gone = []; parts = refl; stands = settles_newest s t p }

pub flushed_early : (m n : Meaning) (d : ℕ) → Early m n → Early (flushed m d) (flushed n d)
flushed_early m n d p = record {
  alike = record { count = p.alike.count; size = p.alike.size };
  slot = λ e k x y. cond_settles (eqb e d) _ _ _ _ (calm_settles _ _ (p.slot e k x y)) (p.slot e k x y);
  left = rw p.left;
}

-- what settles early adds nothing to what a stop may leave
nonempty : (xs : List Block) (v : Block) (vs : List Block) → (w : Block) × (ws : List Block) × (xs ++ (v ∷ vs) ≡ w ∷ ws)
nonempty [] v vs = (v, vs, refl)
nonempty (x ∷ xs) v vs = (x, xs ++ (v ∷ vs), refl)

last_cons : (x : Block) (xs zs : List Block) → (before : List Block) × (v : Block) × ((x ∷ xs) ++ zs ≡ before ++ (v ∷ zs)) × (last_or (Some x) xs ≡ Some v)
last_cons x [] zs = ([], x, refl, refl)
last_cons x (y ∷ ys) zs = let h = last_cons y ys zs in (x ∷ h.0, h.1, rw h.2, h.3)

cut_settled : (d : ℕ) (s t u : Slot) (gone : List Block) → s.pending ≡ gone ++ t.pending → t.settled ≡ last_or s.settled gone → u.settled ≡ t.settled → CutSlot d s u
cut_settled d s t u [] p q r = keeps (r ∙ q)
cut_settled d s t u (x ∷ xs) p q r = let h = last_cons x xs t.pending in lands h.0 h.1 t.pending (p ∙ h.2) (r ∙ q ∙ h.3)

pub cut_early : (d : ℕ) (s t u : Slot) → Settles s t → CutSlot d t u → CutSlot d s u
cut_early d s t u e (keeps p) = cut_settled d s t u e.gone e.parts e.stands p
cut_early d s t u e (lands xs v ys p q) = lands (e.gone ++ xs) v ys (rw (e.parts, p, append_assoc)) q
cut_early d s t u e (tears v vs p q r) = let h = nonempty e.gone v vs in tears h.0 h.1 p (rw (e.parts, q) h.2) r

pub early_cut : (m n k : Meaning) → Early m n → Cut n k → Cut m k
early_cut m n k e c = record {
  alike = alike_trans m n k e.alike c.alike;
  slot = λ d b x y. cut_early d (m.slot d b) (n.slot d b) (k.slot d b) (e.slot d b x y) (c.slot d b (rw e.alike.count x) (rw (e.alike.size d) y));
  still = λ d b x y. c.still d b (rw e.alike.count x) (rw (e.alike.size d) y);
}
