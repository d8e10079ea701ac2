-- Numbers and marks that compare as equal are the same.
use Rattle.std.specs.Prelude.{◌≡◌, ℕ, true}
use Rattle.std.specs.declared.cmp.Ordering.TheVariants.{Equal}
use Rattle.std.proofs.Common.{nat_cmp, arith}
use Rattle.std.proofs.lemmas.Bool.Decides.{nat_tests}
use Rattle.std.proofs.lemmas.Map.Lookups.{exact_unsigned}
use Rattle.later.specs.contracts.MarkOrd.TheImpl.{ghosts}
use Rattle.later.specs.declared.Stamp.{Stamp}
use Rattle.later.specs.declared.Stamp.TheVariants.{Drive, Before, After}
use Rattle.later.specs.declared.Mark.{Mark}
use Rattle.later.specs.Order.{TellsApart}
use Rattle.later.specs.Stamps.{mark_upto}
use Rattle.later.specs.Marks.{marks_ordered}

pub numbers_apart : TellsApart nat_cmp
numbers_apart = exact_unsigned

abbrev mark : Stamp → ℕ → Mark
mark s b = record { stamp = s; byte = b }

-- the first is no later than the second, whatever the order in which fields count
no_later : (s t : Stamp) (b c : ℕ) → ghosts.cmp (mark s b) (mark t c) ≡ Equal → mark_upto (mark s b) (mark t c) ≡ true
no_later Drive Drive b c h = grind (arith, nat_tests, h)
no_later Drive (Before q) b c h = cc
no_later Drive (After n t u d) b c h = cc
no_later (Before p) Drive b c h = cc
no_later (Before p) (Before q) b c h = grind (arith, nat_tests, h)
no_later (Before p) (After n t u d) b c h = cc
no_later (After m r v e) Drive b c h = cc
no_later (After m r v e) (Before q) b c h = cc
no_later (After m r v e) (After n t u d) b c h = grind (arith, nat_tests, h)

back : (s t : Stamp) (b c : ℕ) → ghosts.cmp (mark s b) (mark t c) ≡ Equal → ghosts.cmp (mark t c) (mark s b) ≡ Equal
back Drive Drive b c h = grind (arith, nat_tests, h)
back Drive (Before q) b c h = cc
back Drive (After n t u d) b c h = cc
back (Before p) Drive b c h = cc
back (Before p) (Before q) b c h = grind (arith, nat_tests, h)
back (Before p) (After n t u d) b c h = cc
back (After m r v e) Drive b c h = cc
back (After m r v e) (Before q) b c h = cc
back (After m r v e) (After n t u d) b c h = grind (arith, nat_tests, h)

pub marks_apart : TellsApart ghosts.cmp
marks_apart x y h = marks_ordered.antisymmetric x y (no_later x.stamp y.stamp x.byte y.byte h) (no_later y.stamp x.stamp y.byte x.byte (back x.stamp y.stamp x.byte y.byte h))
