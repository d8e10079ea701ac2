-- Every stroke that ends a round has its place.
use Rattle.std.proofs.Common.{◌≡◌, ℕ, zero, suc, ◌+◌, ◌<◌, ◌≤◌, Bool, List, ◌∷◌, ◌++◌, length, arith}
use Rattle.std.proofs.lemmas.Bool.{lt-ltb, cond_both}
use Rattle.rack.specs.Meaning.{Meaning}
use Rattle.strokes.specs.declared.Stroke.TheVariants.{Flush}
use Rattle.strokes.specs.Plan.{Placed}
use Rattle.strokes.proofs.Exactly.{placed_append}
use Rattle.block.specs.Pages.{page_block}
use Rattle.block.proofs.HeadLaws.{length_head_block}
use Rattle.block.proofs.PageLaws.{length_page_block}
use Rattle.model.specs.Store.{Shape}
use Rattle.model.specs.Format.{head_at, headed}
use Rattle.model.specs.Rounds.{flushes, page_writes, round_end}
use Rattle.model.proofs.Formatting.{placed_write, placed_headed}

placed_flushes : (d n : ℕ) (m : Meaning) → d + n ≤ m.count → Placed (flushes d n) m
unfolding flushes Placed
placed_flushes d zero m h = tt
placed_flushes d (suc n) m h = (lt-ltb d m.count (omega arith), placed_flushes (suc d) n m (omega arith))

placed_writes : (f : ℕ → Bool) (c : ℕ → List ℕ) (p n : ℕ) (m : Meaning) → ((q : ℕ) → q < p + n → length (c q) ≡ 240) → 0 < m.count → p + n < m.size 0 → Placed (page_writes f c p n) m
unfolding page_writes Placed
placed_writes f c p zero m l h g = tt
placed_writes f c p (suc n) m l h g =
    let r = placed_writes f c (suc p) n m (λ q k. l q (omega arith)) h (omega arith) in
    cond_both (f p) _ _ (λ xs. Placed xs m) (λ t. (placed_write 0 (suc p) (page_block (c p)) m (length_page_block (c p) (l p (omega arith))) h (omega arith), r)) (λ t. r)

pub placed_end : (z : Shape) (ρ : ℕ) (f : ℕ → Bool) (c : ℕ → List ℕ) (m : Meaning) → m.count ≡ suc z.logs → z.pages < m.size 0 → ((p : ℕ) → p < z.pages → length (c p) ≡ 240) → Placed (round_end z ρ f c) m
unfolding Placed
placed_end z ρ f c m count room sized =
    placed_append (flushes 1 z.logs) (page_writes f c 0 z.pages ++ (Flush 0 ∷ headed (head_at z (suc ρ)))) m (placed_flushes 1 z.logs m (omega arith))
    (placed_append (page_writes f c 0 z.pages) (Flush 0 ∷ headed (head_at z (suc ρ))) m (placed_writes f c 0 z.pages m (λ q h. sized q (omega arith)) (omega arith) (omega arith))
    (lt-ltb 0 m.count (omega arith), placed_headed (head_at z (suc ρ)) m (length_head_block _) (omega arith) (omega arith)))
