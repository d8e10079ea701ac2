-- What reads back is what `read_as` gives.
use Rattle.std.proofs.Common.{◌≡◌, ℕ, Bool, true, false, cond, ◌&&◌, eqb, leb, List, length, Some, None, Option, sym, refl, ap, ◌∙◌}
use Rattle.std.proofs.lemmas.Bool.{eqb-true, eq-eqb, and_parts, and_from, leb-true, le-leb}
use Rattle.std.proofs.lemmas.Slice.Eq.{bytes_eq-Decides}
use Rattle.std.specs.Str.{bytes_eq}
use Rattle.block.specs.Bytes.{ReadsBack}
use Rattle.block.specs.Readings.{read_as, head_fine, head_in, commit_fine, commit_in}
use Rattle.block.specs.Heads.{HeadOk, head_block}
use Rattle.block.specs.Commits.{CommitOk, commit_block, commit_of}
use Rattle.block.specs.declared.Head.{Head}
use Rattle.block.specs.declared.commits.Commit.{Commit}
use Rattle.block.proofs.Numbers.{AllBytes}
use Rattle.block.proofs.Reading.{Layout}
use Rattle.block.proofs.HeadLaws.{heads, head_of_ok}
use Rattle.block.proofs.CommitLaws.{commits, commit_of_ok}

module _ {C : Type 0} {Ok : C → Type 0} {block : C → List ℕ} {of : List ℕ → C} {Shaped : List ℕ → Type 0} (kind : Layout Ok block of Shaped)
    (ok : C → Bool) (fine : (c : C) → Ok c → ok c ≡ true) (b : List ℕ) (sound : length b ≡ 512 → ok (of b) ≡ true → Ok (of b)) where
  test : Bool
  test = eqb (length b) 512 && (ok (of b) && bytes_eq (block (of b)) b)

  none_is : (t : Bool) → test ≡ t → ReadsBack Ok block b None → None ≡ cond t (Some (of b)) None
  unfolding test
  none_is false e r = refl
  none_is true e r =
      let p = and_parts (eqb (length b) 512) (ok (of b) && bytes_eq (block (of b)) b) e in
      let q = and_parts (ok (of b)) (bytes_eq (block (of b)) b) p.1 in
      (r (of b)).1 (sound (eqb-true (length b) 512 p.0) q.0, (bytes_eq-Decides (block (of b)) b).0 q.1)

  pub read_is : (r : Option C) → ReadsBack Ok block b r → r ≡ read_as ok block of b
  unfolding test
  read_is (Some c) r =
      let h = (r c).0 refl in
      let same : of b ≡ c = ap of (sym h.1) ∙ kind.back c h.0 in
      let long : eqb (length b) 512 ≡ true = eq-eqb (length b) 512 (ap length (sym h.1) ∙ kind.long c h.0) in
      let fits : ok (of b) ≡ true = ap ok same ∙ fine c h.0 in
      let eq : bytes_eq (block (of b)) b ≡ true = (bytes_eq-Decides (block (of b)) b).1 (ap block same ∙ h.1) in
      rw (long, fits, eq) (ap Some (sym same))
  read_is None r = none_is test refl r

pub head_is : (b : List ℕ) → AllBytes b → (r : Option Head) → ReadsBack HeadOk head_block b r → r ≡ head_in b
unfolding head_in
head_is b small r p = read_is heads head_fine (λ h o. le-leb 1 h.round o.begun) b (λ long f. head_of_ok b small (leb-true 1 _ f)) r p

pub commit_is : (b : List ℕ) → AllBytes b → (r : Option Commit) → ReadsBack CommitOk commit_block b r → r ≡ commit_in b
unfolding commit_in
commit_is b small r p =
    read_is commits commit_fine (λ c o. and_from (leb 1 c.set) (leb 1 c.number) (le-leb 1 c.set o.some_set) (le-leb 1 c.number o.some_number)) b
    (λ long f. let q = and_parts (leb 1 (commit_of b).set) (leb 1 (commit_of b).number) f in commit_of_ok b small (leb-true 1 _ q.0) (leb-true 1 _ q.1)) r p
