-- A set of drives, and how many it holds.
--
--   bit n d           bit d of the number n is set, the lowest being bit 0
--   holds s d         the set s holds drive d
--   tally f n         how many numbers below n pass the test f
--   Adds s drive t    t holds what s holds, and the drive; a drive from 16 on adds nothing
use Rattle.std.specs.Prelude.{◌≡◌, ℕ, zero, suc, ◌+◌, Bool, cond, ◌&&◌, ◌||◌, ◌==◌, nat_lt}
use Rattle.std.specs.Int.{bit_at}
use Rattle.drive_set.specs.declared.DriveSet.{DriveSet}

abbrev pub bit : ℕ → ℕ → Bool
bit n d = bit_at n d == 1

-- a mask has 16 bits, so no drive from 16 on is ever held
abbrev pub holds : DriveSet → ℕ → Bool
holds s d = nat_lt d 16 && bit s.bits d

-- kept shut in proofs, since at 16 it would be a sum of 16 tests
unfoldable pub tally : (ℕ → Bool) → ℕ → ℕ
tally f zero = 0
tally f (suc n) = tally f n + cond (f n) 1 0

abbrev pub Adds : DriveSet → ℕ → DriveSet → Type 0
Adds s drive t = (d : ℕ) → holds t d ≡ ((d == drive && nat_lt drive 16) || holds s d)
