-- How many numbers pass a test: laws over any test.
use Rattle.std.proofs.Common.{◌≡◌, ℕ, zero, suc, ◌+◌, ◌<◌, ◌≤◌, Bool, true, false, cond, ◌||◌, eqb, refl, ⊎_elim, arith}
use Rattle.std.proofs.lemmas.Bool.{cases_eq}
use Rattle.std.proofs.lemmas.Bool.Decides.{nat_tests}
use Rattle.drive_set.specs.Sets.{tally}

-- tests that agree below n have one tally there
pub tally_same : (f g : ℕ → Bool) (n : ℕ) → ((d : ℕ) → d < n → f d ≡ g d) → tally f n ≡ tally g n
unfolding tally
tally_same f g zero h = refl
tally_same f g (suc n) h = rw (tally_same f g n (λ d l. h d (omega arith)), h n (omega arith))

-- each passes
pub tally_all : (f : ℕ → Bool) (n : ℕ) → ((d : ℕ) → d < n → f d ≡ true) → tally f n ≡ n
unfolding tally
tally_all f zero h = refl
tally_all f (suc n) h = rw (tally_all f n (λ d l. h d (omega arith)), h n (omega arith)) (omega arith)

pub tally_le : (f : ℕ → Bool) (n : ℕ) → tally f n ≤ n
unfolding tally
tally_le f zero = omega arith
tally_le f (suc n) = grind (arith, nat_tests, tally_le f n)

-- where as many as n pass, each does
pub tally_full : (f : ℕ → Bool) (n : ℕ) → tally f n ≡ n → (d : ℕ) → d < n → f d ≡ true
unfolding tally
tally_full f zero e d h = absurd (omega arith)
tally_full f (suc n) e d h = grind (arith, nat_tests, tally_full f n, tally_le f n)

-- the numbers from n on add nothing where none of them passes
pub tally_above : (f : ℕ → Bool) (n m : ℕ) → n ≤ m → ((d : ℕ) → n ≤ d → f d ≡ false) → tally f m ≡ tally f n
unfolding tally
tally_above f n zero l h = let e : n ≡ 0 = omega arith in rw e
tally_above f n (suc m) l h = ⊎_elim (λ (e : n ≡ suc m). rw e) (λ e. rw (h m (omega arith), tally_above f n m (omega arith) h) (omega arith)) (cases_eq n (suc m))

-- the test of 0, and then the tests of the others
pub tally_front : (f : ℕ → Bool) (n : ℕ) → tally f (suc n) ≡ cond (f 0) 1 0 + tally (λ d. f (suc d)) n
unfolding tally
tally_front f zero = omega arith
tally_front f (suc n) = omega (arith, tally_front f n)

-- where only numbers from 1 to n pass, they alone need be counted
pub tally_run : (f : ℕ → Bool) (n m : ℕ) → n < m → f 0 ≡ false → ((d : ℕ) → n < d → f d ≡ false) → tally f m ≡ tally (λ d. f (suc d)) n
tally_run f n m l z h = grind (arith, nat_tests, tally_above f (suc n) m l h, tally_front f n)

-- one number more that passes
pub tally_more : (f g : ℕ → Bool) (n e : ℕ) → e < n → f e ≡ false → ((d : ℕ) → g d ≡ (eqb d e || f d)) → tally g n ≡ tally f n + 1
unfolding tally
tally_more f g zero e h p q = absurd (omega arith)
tally_more f g (suc n) e h p q = grind (arith, nat_tests, tally_more f g n e, tally_same g f n, q)
