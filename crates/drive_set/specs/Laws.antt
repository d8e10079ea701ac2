-- What the count of a set tells of it.
--
--   Only s n          s holds no drive but some of 1 to n
--   All s n           s holds each of the drives 1 to n
--   Fills s n r       r is at most n, and it is n exactly where s holds each of the drives 1 to n
--   CountsAll s r     the count r fills 1 to n, for each n such that s holds no drive but some of 1 to n
--   CountsMore s r    one drive more, that s does not hold, makes the count r + 1
use Rattle.std.specs.Prelude.{◌≡◌, ℕ, ◌+◌, ◌<◌, ◌≤◌, true, false}
use Rattle.drive_set.specs.declared.DriveSet.{DriveSet}
use Rattle.drive_set.specs.Sets.{holds, tally, Adds}

abbrev pub Only : DriveSet → ℕ → Type 0
Only s n = (d : ℕ) → holds s d ≡ true → (1 ≤ d) × (d ≤ n)

abbrev pub All : DriveSet → ℕ → Type 0
All s n = (d : ℕ) → 1 ≤ d → d ≤ n → holds s d ≡ true

pub record Fills (s : DriveSet) (n r : ℕ) : Type 0 where
  pub within : r ≤ n
  pub full : r ≡ n → All s n
  pub whole : All s n → r ≡ n

abbrev pub CountsAll : DriveSet → ℕ → Type 0
CountsAll s r = (n : ℕ) → n < 16 → Only s n → Fills s n r

abbrev pub CountsMore : DriveSet → ℕ → Type 0
CountsMore s r = (drive : ℕ) (t : DriveSet) → drive < 16 → holds s drive ≡ false → Adds s drive t → tally (holds t) 16 ≡ r + 1
