-- Logs taken: a log that can be taken has its bit in the mask.
use Rattle.std.proofs.Common.{◌≡◌, ℕ, ◌≤◌, Bool, true, false, not, ◌&&◌, ◌||◌, eqb, ltb, refl, ap, ◌∙◌, arith}
use Rattle.std.proofs.lemmas.Bool.Decides.{nat_tests}
use Rattle.model.specs.Store.{Shape}
use Rattle.model.specs.Recovery.{is_log, also_taken}

log_in_mask : (z : Shape) (d : ℕ) (taken : Bool) → z.logs ≤ 8 → not (is_log z d && not taken) ≡ false → ltb d 16 ≡ true
log_in_mask z d taken few e = grind (arith, nat_tests)

pub also_taken_lem : (z : Shape) (d : ℕ) (t u : ℕ → Bool) → z.logs ≤ 8 → not (is_log z d && not (t d)) ≡ false → ((e : ℕ) → u e ≡ ((eqb e d && ltb d 16) || t e)) → u ≡ also_taken t d
also_taken_lem z d t u few can adds =
    let mask = log_in_mask z d (t d) few can in
    λ i e. (adds e ∙ with_bit (eqb e d) (t e) mask) i
  where
    with_bit : (x y : Bool) → ltb d 16 ≡ true → ((x && ltb d 16) || y) ≡ (x || y)
    with_bit true y q = ap (λ (b : Bool). b || y) q
    with_bit false y q = refl
