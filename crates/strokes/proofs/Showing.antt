-- What can be read after a plan does not hang on what settled early.
use Rattle.std.proofs.Common.{◌≡◌, ℕ, ◌<◌, Bool, true, false, cond, ◌&&◌, eqb, [], ◌∷◌, Some, refl, ap, ◌∙◌}
use Rattle.rack.specs.Meaning.{Block, Slot, Meaning, Early, newest, more, calm}
use Rattle.rack.proofs.Settling.{last_or-++, settles_newest}
use Rattle.strokes.specs.declared.Stroke.{Stroke}
use Rattle.strokes.specs.declared.Stroke.TheVariants.{Write, Flush}
use Rattle.strokes.specs.Plan.{effect, Strokes, put_at, shows}
use Rattle.strokes.specs.Laws.{PlansShow}
use Rattle.strokes.proofs.Playing.{alike_stroke}

more_newest : (t : Bool) (s : Slot) (v : Block) → newest (cond t (more s (v ∷ [])) s) ≡ cond t (Some v) (newest s)
more_newest true s v = last_or-++ s.settled s.pending (v ∷ [])
more_newest false s v = refl

calm_newest : (t : Bool) (s : Slot) → newest (cond t (calm s) s) ≡ newest s
calm_newest true s = refl
calm_newest false s = refl

early_shows : (s : Stroke) (m k : Meaning) (d b : ℕ) → d < m.count → b < m.size d → Early (effect s m) k → newest (k.slot d b) ≡ put_at s d b (newest (m.slot d b))
early_shows (Write e j v) m k d b h g y = settles_newest _ _ (y.slot d b h g) ∙ more_newest (eqb d e && eqb b j) (m.slot d b) v
early_shows (Flush e) m k d b h g y = settles_newest _ _ (y.slot d b h g) ∙ calm_newest (eqb d e) (m.slot d b)

pub plans_show : PlansShow
unfolding Strokes shows
plans_show [] m n d b h g y = rw y
plans_show (s ∷ ss) m n d b h g y =
    let k = y.0 in
    let a = alike_stroke s m k y.1 in
    plans_show ss k n d b (rw a.count h) (rw (a.size d) g) y.2 ∙ ap (shows ss d b) (early_shows s m k d b h g y.1)
