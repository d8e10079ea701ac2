-- The bits of a mask: one of them set or tested, and all of them counted.
use Rattle.std.proofs.Common.{◌≡◌, ℕ, zero, suc, ◌/◌, ◌%◌, ◌^◌, ◌<◌, not, cond, ◌||◌, eqb, ltb, add-one, arith}
use Rattle.std.specs.Int.Bits.{bit_and, bit_or, and_zero_r, or_zero_r}
use lib.Count.{ones, ones_step, ones-le}
use Rattle.std.proofs.lemmas.Nat.{shr_below, pow_pos}
use Rattle.std.proofs.lemmas.Nat.Bits.{bit_at_lowest, bit_at-suc, bit_at_or, bit_at-pow_same, bit_at-pow_other, bit_at-lt, and_pow}
use Rattle.std.proofs.lemmas.Bool.Decides.{nat_tests}
use Rattle.drive_set.specs.declared.DriveSet.{DriveSet}
use Rattle.drive_set.specs.Sets.{bit, holds, tally, Adds}
use Rattle.drive_set.proofs.Tallies.{tally_same, tally_le, tally_front}

bit_set : (a d e : ℕ) → bit (bit_or a (2 ^ d)) e ≡ (eqb e d || bit a e)
bit_set a d e = grind (arith, nat_tests, bit_at_or, bit_at-pow_same, bit_at-pow_other, bit_at-lt)

-- the bit of a drive, which is 0 where the drive has none
abbrev pub bit_of : ℕ → ℕ
bit_of drive = cond (ltb drive 16) (2 ^ drive) 0

-- the mask with the bit of a drive more
pub adds_bit : (s : DriveSet) (drive : ℕ) → Adds s drive record { bits = bit_or s.bits (bit_of drive) }
adds_bit s drive d = grind (arith, nat_tests, bit_set, or_zero_r)

-- whether the mask has it
pub has_bit : (s : DriveSet) (drive : ℕ) → not (eqb (bit_and s.bits (bit_of drive)) 0) ≡ holds s drive
has_bit s drive = grind (arith, nat_tests, and_pow s.bits drive, bit_at-lt s.bits drive, pow_pos drive, and_zero_r)

digit_test : (x : ℕ) → x < 2 → x ≡ cond (eqb x 1) 1 0
digit_test x h = grind (arith, nat_tests)

-- the ones of a number of k digits are its bits that are set
pub ones_tally : (k n : ℕ) → n < 2 ^ k → ones n ≡ tally (bit n) k
ones_tally zero n h = omega (arith, ones-le 0 n h, tally_le (bit n) 0)
ones_tally (suc k) n h =
    let l : n % 2 ≡ cond (bit n 0) 1 0 = rw (bit_at_lowest n) (digit_test (n % 2) (omega arith)) in
    let i = ones_tally k (n / 2) (shr_below n k 1 (rw add-one h)) in
    let t = tally_same (bit (n / 2)) (λ d. bit n (suc d)) k (λ d l. rw (bit_at-suc n d)) in
    omega (arith, ones_step n, tally_front (bit n) k)
