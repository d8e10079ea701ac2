-- A reader of changes gives what `change_in` says.
use Rattle.std.proofs.Common.{◌≡◌, ℕ, true, leb, List, length, Some, Option, refl}
use Rattle.std.proofs.lemmas.Bool.{and_parts, leb-true, le-leb}
use Rattle.block.specs.Bytes.{ReadsBack}
use Rattle.block.proofs.Numbers.{AllBytes}
use Rattle.block.proofs.ReadAs.{read_is}
use Rattle.change.specs.Pairs.{well_paired, total, total_in}
use Rattle.change.specs.Changes.{Content, ChangeOk, change_block, content_of, pairs_of}
use Rattle.change.specs.Readings.{change_fine, change_in}
use Rattle.change.proofs.ChangeLaws.{changes}
use Rattle.change.proofs.ReadLaws.{content_ok}

is_fine : (v : Content) → ChangeOk v → change_fine v ≡ true
is_fine v o = rw (o.paired, le-leb 1 v.set o.some_set, le-leb 1 v.step o.some_step) refl

is_sound : (b : List ℕ) → AllBytes b → length b ≡ 512 → change_fine (content_of b) ≡ true → ChangeOk (content_of b)
unfolding content_of
is_sound b small long f =
    let p = and_parts (well_paired (pairs_of b)) _ f in
    let q = and_parts (leb 1 (content_of b).set) (leb 1 (content_of b).step) p.1 in
    let sum : Some (total (pairs_of b)) ≡ total_in (pairs_of b) = rw p.0 refl in
    content_ok b (pairs_of b) refl (total (pairs_of b)) sum long small (leb-true 1 _ q.0) (leb-true 1 _ q.1)

pub change_is : (b : List ℕ) → AllBytes b → (r : Option Content) → ReadsBack ChangeOk change_block b r → r ≡ change_in b
unfolding change_in
change_is b small r p = read_is changes change_fine is_fine b (is_sound b small) r p
