-- Pages put one after another into the marks.
use Rattle.std.proofs.Common.{◌≡◌, ℕ, suc, ◌+◌, ◌*◌, List, [], ◌++◌, map, length, Some, Option, sym, refl, ap, ◌∙◌, ap₂, zero-add, add-one, arith}
use lib.Seq.{paste}
use Rattle.std.proofs.lemmas.List.{length-map, length-append, append-nil, drop_all}
use Rattle.std.proofs.lemmas.List.Edits.{paste_none, paste_all, paste-paste}
use Rattle.rack.specs.Meaning.{Block, Meaning}
use Rattle.block.specs.Pages.{page_content}
use Rattle.later.specs.declared.Mark.{Mark}
use Rattle.model.specs.Logs.{value_at}
use Rattle.model.specs.Recovery.{drive_mark, page_marks, drive_marks}
use Rattle.page_drive.specs.Pages.{pasted}

-- the marks of a page that was read
pub page_put : (d : List Mark) (at : ℕ) (o : Option Block) (b content : Block) → Some b ≡ o → content ≡ page_content b → pasted d at (map drive_mark content) ≡ pasted d at (page_marks o)
page_put d at o b content e f = ap (pasted d at) (ap (map drive_mark) f ∙ ap page_marks e)

pub page_whole : (o : Option Block) (b content : Block) → Some b ≡ o → content ≡ page_content b → length content ≡ 240 → length (page_marks o) ≡ 240
page_whole o b content e f l = ap length (ap page_marks (sym e) ∙ ap (map drive_mark) (sym f)) ∙ length-map content drive_mark ∙ l

-- so far the first p pages are read
pub record SoFar (d : List Mark) (m : Meaning) (p : ℕ) (ks : List Mark) : Type 0 where
  pub long : length (drive_marks m p) ≡ 240 * p
  pub marks : ks ≡ paste d 0 (drive_marks m p) (240 * p)

pub so_far_none : (d : List Mark) (m : Meaning) → SoFar d m 0 d
unfolding drive_marks
so_far_none d m = record { long = refl; marks = paste_none d 0 [] }

pub so_far_more : (d : List Mark) (m : Meaning) (p : ℕ) (ks ks' : List Mark) → SoFar d m p ks → length (page_marks (value_at m 0 (suc p))) ≡ 240 →
    ks' ≡ pasted ks (240 * p) (page_marks (value_at m 0 (suc p))) → SoFar d m (p + 1) ks'
unfolding drive_marks
so_far_more d m p ks ks' s l e =
    let new = page_marks (value_at m 0 (suc p)) in
    let n : 240 * p + 240 ≡ 240 * (p + 1) = omega arith in
    let grown : drive_marks m (p + 1) ≡ drive_marks m p ++ new = rw add-one refl in
    let z : 0 + 240 * p ≡ 240 * p = zero-add (240 * p) in
    let first : ks' ≡ paste (paste d 0 (drive_marks m p) (240 * p)) (0 + 240 * p) new 240 = e ∙ ap₂ (λ (xs : List Mark) (k : ℕ). paste xs (240 * p) new k) s.marks l ∙ ap (λ (k : ℕ). paste (paste d 0 (drive_marks m p) (240 * p)) k new 240) (sym z) in
    let both = paste-paste d 0 (drive_marks m p) new (240 * p) 240 (sym s.long) (sym l) (omega arith) in
    record {
      long = ap length grown ∙ length-append (drive_marks m p) new ∙ omega (arith, s.long);
      marks = first ∙ both ∙ ap₂ (λ (xs : List Mark) (k : ℕ). paste d 0 xs k) (sym grown) n;
    }

pub so_far_all : (d : List Mark) (m : Meaning) (p : ℕ) (ks : List Mark) → SoFar d m p ks → length d ≡ 240 * p → ks ≡ drive_marks m p
so_far_all d m p ks s l =
    let all = paste_all d 0 (drive_marks m p) (240 * p) (sym s.long) in
    let none = drop_all (0 + 240 * p) d (omega arith) in
    s.marks ∙ all ∙ ap (λ (xs : List Mark). drive_marks m p ++ xs) none ∙ append-nil (drive_marks m p)
