-- Arrays that a closure fills, and the rest of a slice from a place on.
use Rattle.std.proofs.Common.{◌≡◌, ℕ, zero, suc, ◌+◌, ◌<◌, ◌≤◌, List, map, [], get_or, drop, length, None, Some, Option, sym, refl, ◌∙◌, ⊎_elim, inl, inr, arith}
use Rattle.std.specs.List.{range_with_len}
use Rattle.std.specs.Option.{unwrap_or}
use Rattle.std.specs.Slice.{IsGetRangeResult}
use Rattle.std.specs.Borrow.{Bor}
use Rattle.std.proofs.lemmas.Bool.{cases_eq}
use Rattle.std.proofs.lemmas.List.{drop_all}
use Rattle.std.proofs.lemmas.List.FromFn.{fill_by_all}
use Rattle.std.proofs.lemmas.Slice.{between_to_end}
use Rattle.std.specs.Array.{IsFromFnResultFrom, IsFromFnResult}
use denote.Param.Members.{Mut, Called}

-- what holds before each call still holds behind it, and then each call makes at its place what is asked there
module _ {F B : Type 0} (g : Mut F (ℕ × Unit {0}) B) (n : ℕ) (Q : ℕ → B → Type 0) (P : F → Type 0)
    (makes : (p : F) (i : ℕ) (y : B) (q : F) → i < n → P p → Called g p (i, tt) y q → Q i y × P q) (ys : List B) where
  each_from : (f : F) (i m : ℕ) → i + m ≤ n → P f → IsFromFnResultFrom g f ys i m → (k : ℕ) (d : B) → i ≤ k → k < i + m → Q k (get_or ys k d)
  each_from f i zero few s made k d low high = absurd (omega arith)
  each_from f i (suc m) few s (q, y, here, call, rest) k d low high =
      let told = makes f i y q (omega arith) s call in
      elim (cases_eq i k) [
        | inl e ↦ rw (← e, here.1 d) told.0
        | inr e ↦ each_from q (i + 1) m (omega arith) told.1 rest k d (omega arith) (omega arith)
      ]

-- the closure changes nothing that counts, and gives `h i` at the place i: so the array is what it gives at each place
pub filled : {F B : Type 0} (g : Mut F (ℕ × Unit {0}) B) (n : ℕ) (h : ℕ → B) (P : F → Type 0) →
    ((p : F) (i : ℕ) (y : B) (q : F) → i < n → P p → Called g p (i, tt) y q → (y ≡ h i) × P q) →
    B → (f : F) (ys : List B) → P f → IsFromFnResult g f ys n → ys ≡ map h (range_with_len 0 n)
filled g n h P gives d f ys s r = fill_by_all h ys n d r.long (λ k l. each_from g n (λ i y. y ≡ h i) P gives ys f 0 n (omega arith) s r.each k d (omega arith) (omega arith))

-- what each call makes at its index holds of the element there
pub from_fn_each : {F B : Type 0} (g : Mut F (ℕ × Unit {0}) B) (f : F) (P : ℕ → B → Type 0) (ys : List B) (n : ℕ) →
    ((i : ℕ) (y : B) (q : F) → i < n → Called g f (i, tt) y q → P i y × (q ≡ f)) → IsFromFnResultFrom g f ys 0 n → (k : ℕ) (d : B) → k < n → P k (get_or ys k d)
from_fn_each g f P ys n makes made k d h =
    each_from g n P (λ p. p ≡ f) (λ p i y q l s call. makes i y q l (rw s at call)) ys f 0 n (omega arith) refl made k d (omega arith) (omega arith)

-- what `get(i..)` finds, or an empty slice past the end
pub rest_is : (b : List ℕ) (i : ℕ) (r : Option (Bor (List ℕ))) (e : Bor (List ℕ)) → e.now ≡ [] → IsGetRangeResult b i (length b) r → (unwrap_or r e).now ≡ drop i b
rest_is b i (Some x) e empty h = h.0.2 ∙ between_to_end b i (length b) (omega arith)
rest_is b i None e empty h = empty ∙ sym (drop_all i b (⊎_elim (λ l. omega arith) (λ l. omega arith) h.0))
