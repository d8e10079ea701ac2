-- A change of one block of the memory is a change of that block of the rack, and of no other.
use Rattle.std.proofs.Common.{◌≡◌, ℕ, ◌+◌, ◌-◌, ◌*◌, ◌≤◌, ◌&&◌, eqb, List, [], ◌∷◌, length, Some, None, Option, refl, ◌∙◌, subst, arith}
use Rattle.std.proofs.lemmas.List.{get_or-set_same, get_or-set_other, length-set}
use Rattle.std.proofs.lemmas.Bool.{cond_both}
use Rattle.std.proofs.lemmas.Bool.Decides.{nat_tests}
use Rattle.rack.specs.Meaning.{Block, Slot, Settles, Early, written}
use Rattle.memory_rack.specs.Memory.{Kept, block_at, slot_at, place_of, shown, over, put, cleared, ReadsOnly}
use Rattle.memory_rack.proofs.Blocks.{length_over, block_here, block_other}
use Rattle.memory_rack.proofs.Places.{Lies, same_place}

-- the memory j has the lengths of k and shows the same, but for the i-th block, which holds o
pub record Touches (k j : Kept) (i : ℕ) (o : Option Block) : Type 0 where
  pub shape : j.shape ≡ k.shape
  pub marks : length j.marks ≡ length k.marks
  pub bytes : length j.bytes ≡ length k.bytes
  pub here : (slot_at j i).settled ≡ o
  pub others : (n : ℕ) → (n ≡ i → ⊥) → (slot_at j n).settled ≡ (slot_at k n).settled

module _ (k j : Kept) (d b i : ℕ) (o : Option Block) (l : Lies k d b i) (t : Touches k j i o) where
  -- such a change is read in that block alone
  pub touches_reads : ReadsOnly (shown k) (shown j) d b o
  touches_reads = record {
    alike = record { count = rw (t.shape, t.marks, t.bytes) refl; size = λ e. rw t.shape refl };
    here = rw t.shape (subst (λ n. (slot_at j n).settled ≡ o) l.place t.here);
    others = λ e c p q ne. rw t.shape (t.others (place_of k e c) (λ h. ne (same_place k.shape.sizes d b e c l.block q (h ∙ l.place))));
  }

module _ (k : Kept) (d b i : ℕ) (l : Lies k d b i) where
  pub put_touches : (p : ℕ) (v : List ℕ) → p + length v ≤ 512 → Touches k (put k i p v) i (Some (over (block_at k.bytes i) p v))
  put_touches p v h = record {
    shape = refl;
    marks = length-set k.marks i 1;
    bytes = length_over k.bytes (512 * i + p) v (omega (arith, l.whole));
    here = rw (get_or-set_same k.marks i 1 0 l.marked, block_here k.bytes i p v l.whole h) refl;
    others = λ n ne. rw (get_or-set_other k.marks i n 1 0 ne, block_other k.bytes i p v l.whole h n ne) refl;
  }

  pub cleared_touches : Touches k (cleared k i) i None
  cleared_touches = record {
    shape = refl;
    marks = length-set k.marks i 0;
    bytes = refl;
    here = rw (get_or-set_same k.marks i 0 0 l.marked) refl;
    others = λ n ne. rw (get_or-set_other k.marks i n 0 0 ne) refl;
  }

-- a block that reads otherwise, one stroke later, is a write that was settled at once
pub reads_early : (k j : Kept) (d b : ℕ) (v : Block) → ReadsOnly (shown k) (shown j) d b (Some v) → j.left ≡ k.left - 1 → Early (written (shown k) d b v) (shown j)
reads_early k j d b v r e = record {
  alike = record { count = r.alike.count; size = r.alike.size };
  slot = λ f c p q. cond_both (eqb f d && eqb c b) _ _ (λ (s : Slot). Settles s ((shown j).slot f c))
      (λ t. let x : f ≡ d = grind (arith, nat_tests) in let y : c ≡ b = grind (arith, nat_tests) in record { gone = v ∷ []; parts = refl; stands = rw (x, y) r.here })
      (λ t. record { gone = []; parts = refl; stands = r.others f c p q (λ h. grind (arith, nat_tests)) });
  left = e;
}
