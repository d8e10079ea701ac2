-- Marks are in a total order: those with the same fields and the same byte are the same.
use Rattle.std.specs.Prelude.{◌≡◌, ℕ, Bool, ◌≢◌, refl}
use Rattle.later.specs.declared.Stamp.{Stamp}
use Rattle.later.specs.declared.Stamp.TheVariants.{Drive, Before, After}
use Rattle.later.specs.declared.Mark.{Mark}
use Rattle.later.specs.Order.{TotalOrder, by_fields}
use Rattle.later.specs.Stamps.{stamp_fields, mark_upto}
use Rattle.later.specs.Fields.{numbers_ordered, fields_decide, by_fields_lem}

abbrev before : ℕ → ℕ → Stamp
before drive block = Before (record { drive = drive; block = block })

abbrev after : ℕ → ℕ → ℕ → ℕ → ℕ → Stamp
after commit set step drive block = After commit set step (record { drive = drive; block = block })

-- stamps of two kinds differ in the class
pub one_stamp : (s t : Stamp) → stamp_fields s ≡ stamp_fields t → s ≡ t
one_stamp Drive Drive e = refl
one_stamp Drive (Before p) e = cc
one_stamp Drive (After n s t p) e = cc
one_stamp (Before p) Drive e = cc
one_stamp (Before p) (Before q) e = let r : before p.drive p.block ≡ before q.drive q.block = cc in r
one_stamp (Before p) (After n s t q) e = cc
one_stamp (After n s t p) Drive e = cc
one_stamp (After n s t q) (Before p) e = cc
one_stamp (After n s t p) (After n' s' t' q) e =
    let r : after n s t p.drive p.block ≡ after n' s' t' q.drive q.block = cc in r

abbrev marked : Stamp → ℕ → Mark
marked s b = record { stamp = s; byte = b }

one_mark : (x y : Mark) → stamp_fields x.stamp ≡ stamp_fields y.stamp → x.byte ≡ y.byte → x ≡ y
one_mark x y e f =
    let s = one_stamp x.stamp y.stamp e in
    let r : marked x.stamp x.byte ≡ marked y.stamp y.byte = cc in r

pub marks_ordered : TotalOrder mark_upto
marks_ordered = by_fields_lem numbers_ordered (λ (m : Mark). stamp_fields m.stamp) (λ m. m.byte) one_mark

-- of marks with different stamps the bytes do not count
pub stamps_decide : (x y : Mark) (rest : Bool) → (x.stamp ≢ y.stamp) → mark_upto x y ≡ by_fields (stamp_fields x.stamp) (stamp_fields y.stamp) rest
stamps_decide x y rest n = fields_decide _ _ _ _ (λ e. n (one_stamp x.stamp y.stamp e))
