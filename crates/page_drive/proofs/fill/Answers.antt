use Rattle.std.proofs.Common.{◌≡◌, ℕ, ◌+◌, ◌<◌, ◌≤◌, List, map, length, get_or, set, sym, ap, ◌∙◌, arith}
use lib.Seq.{paste}
use Rattle.std.proofs.lemmas.List.{get_or-map, length-map}
use Rattle.std.proofs.lemmas.List.Edits.{paste_none, paste_more}
use Rattle.later.specs.declared.Mark.{Mark}
use Rattle.model.specs.Recovery.{drive_mark}
use Rattle.page_drive.proofs.fill.Goals as goal

pub loop-i-init : goal.loop-i-init
loop-i-init c = paste_none c.args.marks.now c.args.at (map drive_mark c.args.bytes.now)

one_more : (d : List Mark) (at : ℕ) (bs : List ℕ) (i : ℕ) → at + length bs ≤ length d → i < length bs → set (paste d at (map drive_mark bs) i) (at + i) (drive_mark (get_or bs i 0)) ≡ paste d at (map drive_mark bs) (i + 1)
one_more d at bs i h g =
    let l = length-map bs drive_mark in
    ap (set (paste d at (map drive_mark bs) i) (at + i)) (sym (get_or-map drive_mark bs i 0 (drive_mark 0) g)) ∙ paste_more d at (map drive_mark bs) i (drive_mark 0) (omega arith) (omega arith)

pub loop-i-preserved : goal.loop-i-preserved
loop-i-preserved c =
    ap (λ (ks : List Mark). set ks (c.args.at + c.loop-i.i) (drive_mark (get_or c.args.bytes.now c.loop-i.i 0))) c.loop-i.invariant
    ∙ one_more c.args.marks.now c.args.at c.args.bytes.now c.loop-i.i (omega arith) (omega arith)

pub returns : goal.returns
returns c =
    let e : c.loop-i.i ≡ length (map drive_mark c.args.bytes.now) = omega (arith, length-map c.args.bytes.now drive_mark) in
    c.loop-i.invariant ∙ ap (paste c.args.marks.now c.args.at (map drive_mark c.args.bytes.now)) e
