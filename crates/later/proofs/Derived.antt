-- The orders that `cmp` gives are total where values that compare as equal are the same, and at numbers and marks they
-- are the ones that the definitions name.
use Rattle.std.proofs.Common.{nat_le, nat_cmp, ap, arith, rules}
use Rattle.std.proofs.lemmas.Bool.Decides.{nat_tests}
use Rattle.std.specs.Cmp.{IsTotalOrder, tied_itself, upto}
use Rattle.std.specs.declared.cmp.Ordering.{Ordering}
use Rattle.std.specs.Ordering.{is_le}
use Rattle.later.specs.contracts.MarkOrd.TheImpl.{ghosts}
use Rattle.later.specs.Order.{TellsApart, TotalOrder, upto_by}
use Rattle.later.specs.Keeping.{KeepsTheLatest, KeptBy}
use Rattle.later.specs.Stamps.{mark_upto}
use Rattle.later.specs.Fields.{numbers_ordered}
use Rattle.later.specs.Marks.{marks_ordered}
use Rattle.later.proofs.Places.{keeps_the_latest}

module _ {V : Type 0} {cmp : V → V → Ordering} (o : IsTotalOrder cmp) (exact : TellsApart cmp) where
  order : TotalOrder (upto_by cmp)
  order = record {
    reflexive = λ x. ap is_le (tied_itself o x);
    transitive = λ x y z h k. let t = upto o x y z in search rules;
    antisymmetric = λ x y h k. let s = o.antisymm x y in let e = exact x y in search rules;
    total = λ x y. let s = o.antisymm x y in search rules;
  }

  pub kept_exactly : KeepsTheLatest (upto_by cmp)
  kept_exactly = keeps_the_latest order

pub numbers_kept : KeptBy nat_cmp nat_le
numbers_kept = record { order = numbers_ordered; same = λ x y. grind (arith, nat_tests); lawful = keeps_the_latest numbers_ordered }

pub marks_kept : KeptBy ghosts.cmp mark_upto
marks_kept = record { order = marks_ordered; same = λ m n. grind (arith, nat_tests); lawful = keeps_the_latest marks_ordered }
