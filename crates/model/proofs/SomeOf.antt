-- Whether some number below a bound passes a test, found by a loop that is told of each number whether it fails.
use Rattle.std.proofs.Common.{◌≡◌, ℕ, zero, suc, ◌+◌, ◌<◌, Bool, true, false, not, add-one, arith}
use Rattle.std.proofs.lemmas.Bool.Decides.{nat_tests}
use Rattle.model.specs.Store.{some_of}

-- the loop has passed b numbers, none of which passes the test
pub some_more : (f : ℕ → Bool) (b : ℕ) → some_of f b ≡ false → true ≡ not (f b) → some_of f (b + 1) ≡ false
some_more f b p q = rw add-one (grind (arith, nat_tests))

pub some_true : (f : ℕ → Bool) (n b : ℕ) → b < n → f b ≡ true → some_of f n ≡ true
some_true f zero b h p = absurd (omega arith)
some_true f (suc n) b h p = grind (arith, nat_tests, some_true f n b)

-- where none passes, no single one does
pub none_passes : (f : ℕ → Bool) (n b : ℕ) → b < n → some_of f n ≡ false → f b ≡ false
none_passes f n b h e = grind (arith, nat_tests, some_true f n b)
