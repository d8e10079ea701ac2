-- What adding a drive does to a set, and what the count of a set tells.
use Rattle.std.proofs.Common.{◌≡◌, ℕ, suc, ◌-◌, ◌^◌, ◌<◌, ◌≤◌, Bool, false, sym, ◌∙◌, arith}
use lib.Count.{ones}
use Rattle.std.proofs.lemmas.Bool.Decides.{nat_tests}
use Rattle.drive_set.specs.declared.DriveSet.{DriveSet}
use Rattle.drive_set.specs.Sets.{bit, holds, tally}
use Rattle.drive_set.specs.Laws.{Only, CountsAll, CountsMore}
use Rattle.drive_set.proofs.Tallies.{tally_same, tally_le, tally_full, tally_all, tally_run, tally_more}
use Rattle.drive_set.proofs.Masks.{ones_tally}

-- the bits that are set are the drives that are held
pub ones_held : (s : DriveSet) → s.bits < 2 ^ 16 → ones s.bits ≡ tally (holds s) 16
ones_held s h = ones_tally 16 s.bits h ∙ tally_same (bit s.bits) (holds s) 16 (λ d l. grind (arith, nat_tests))

only_not : (s : DriveSet) (n d : ℕ) → Only s n → ((1 ≤ d) × (d ≤ n) → ⊥) → holds s d ≡ false
only_not s n d o no-drive = grind (arith, nat_tests, o d)

pub counts_all : (s : DriveSet) (r : ℕ) → r ≡ tally (holds s) 16 → CountsAll s r
counts_all s r e n l o = record {
  within = omega (arith, run, tally_le later n);
  full = λ p d a b. let q : d ≡ suc (d - 1) = omega arith in rw q (tally_full later n (sym run ∙ p) (d - 1) (omega arith));
  whole = λ h. run ∙ tally_all later n (λ d k. h (suc d) (omega arith) (omega arith));
}
  where
    later : ℕ → Bool
    later d = holds s (suc d)

    run : r ≡ tally later n
    run = e ∙ tally_run (holds s) n 16 l (only_not s n 0 o (λ p. omega arith)) (λ d k. only_not s n d o (λ p. omega arith))

pub counts_more : (s : DriveSet) (r : ℕ) → r ≡ tally (holds s) 16 → CountsMore s r
counts_more s r e drive t h p a = rw e (tally_more (holds s) (holds t) 16 drive h p (λ d. grind (arith, nat_tests, a d)))
