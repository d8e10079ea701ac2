-- The block of a change.
use Rattle.std.proofs.Common.{◌≡◌, ℕ, ◌+◌, ◌-◌, ◌*◌, ◌%◌, ◌≤◌, List, ◌++◌, map, length, get_or, drop, sym, refl, ap, ◌∙◌, subst, arith}
use Rattle.std.specs.List.{flat_map, between}
use Rattle.std.proofs.lemmas.List.{length-append, append_assoc, drop_at}
use Rattle.std.proofs.lemmas.List.Edits.{length-between}
use Rattle.std.proofs.lemmas.List.Folds.{drop_split}
use Rattle.block.specs.Bytes.{bytes_from, zeros, AllZero}
use Rattle.block.proofs.Numbers.{at2_bytes2, at4_bytes4, drop_bytes_from, AllBytes, bytes2_at2, bytes4_at4, bytes4_low}
use Rattle.block.proofs.Zeros.{length_zeros, three_zeros, zero_each, part_is_zeros, tail_is_zeros, zero_tail}
use Rattle.block.proofs.Reading.{Layout}
use Rattle.change.specs.Pairs.{total, slots_of, pair_bytes, pairs_in}
use Rattle.change.specs.Changes.{Content, ChangeOk, change_head, slot_bytes, change_block, content_with, pairs_of, content_of, Marked, ChangeShaped}
use Rattle.change.specs.declared.runs.Pair.{Pair}
use Rattle.change.proofs.Parts.{between_at, drop_of_between, bytes_between}
use Rattle.change.proofs.PairLists.{paired_parts, total_bound}
use Rattle.change.proofs.PairCodec.{length_pairs_bytes, length_slot_bytes, slots_bytes, length_pairs_in, pairs_in_written, written_pairs_in}

-- the parts of a block that was written
module _ (v : Content) (ok : ChangeOk v) where
  pub ok_total : total v.pairs ≤ 240
  ok_total = omega (arith, total_bound 0 v.pairs (omega arith) (paired_parts v.pairs ok.paired).2)

  few : length v.pairs ≤ 4
  few = (paired_parts v.pairs ok.paired).1

  abbrev tail : List ℕ
  tail = zeros (480 - 2 * total v.pairs)

  abbrev front : List ℕ
  front = change_head v ++ slot_bytes v.pairs

  length_front : length front ≡ 32
  length_front = omega (arith, length-append (change_head v) (slot_bytes v.pairs), length_slot_bytes v.pairs few)

  pub length_change_block : length (change_block v) ≡ 512
  unfolding change_block
  length_change_block = omega (arith, length-append (slot_bytes v.pairs) (v.before ++ (v.after ++ tail)), length-append v.before (v.after ++ tail), length-append v.after tail, length_zeros (480 - 2 * total v.pairs), length_slot_bytes v.pairs few, ok.before, ok.after, ok_total)

  slots_part : between 16 32 (change_block v) ≡ slot_bytes v.pairs
  unfolding change_block
  slots_part = between_at (change_head v) (slot_bytes v.pairs) (v.before ++ (v.after ++ tail)) 16 32 refl (length_slot_bytes v.pairs few)

  behind_front : change_block v ≡ front ++ (v.before ++ (v.after ++ tail))
  unfolding change_block
  behind_front = sym (append_assoc (change_head v) (slot_bytes v.pairs) (v.before ++ (v.after ++ tail)))

  before_part : between 32 (32 + total v.pairs) (change_block v) ≡ v.before
  before_part =
      ap (between 32 (32 + total v.pairs)) behind_front ∙ between_at front v.before (v.after ++ tail) 32 (32 + total v.pairs) length_front (ok.before ∙ omega arith)

  behind_before : change_block v ≡ (front ++ v.before) ++ (v.after ++ tail)
  behind_before = behind_front ∙ sym (append_assoc front v.before (v.after ++ tail))

  length_before : length (front ++ v.before) ≡ 32 + total v.pairs
  length_before = omega (arith, length-append front v.before, length_front, ok.before)

  after_part : between (32 + total v.pairs) (32 + 2 * total v.pairs) (change_block v) ≡ v.after
  after_part = ap (between (32 + total v.pairs) (32 + 2 * total v.pairs)) behind_before ∙ between_at (front ++ v.before) v.after tail (32 + total v.pairs) (32 + 2 * total v.pairs) length_before (ok.after ∙ omega arith)

  tail_part : drop (32 + 2 * total v.pairs) (change_block v) ≡ tail
  tail_part =
      let e = behind_before ∙ sym (append_assoc (front ++ v.before) v.after tail) in
      ap (drop (32 + 2 * total v.pairs)) e ∙ drop_at ((front ++ v.before) ++ v.after) tail (32 + 2 * total v.pairs) (omega (arith, length-append (front ++ v.before) v.after, length_before, ok.after))

  pairs_part : pairs_of (change_block v) ≡ v.pairs
  unfolding change_block
  pairs_part = ap (pairs_in (length v.pairs)) slots_part ∙ pairs_in_written v.pairs 0 (zeros (16 - 4 * length v.pairs)) (paired_parts v.pairs ok.paired).2

  -- reading what was written
  with_parts : content_with (change_block v) v.pairs (total v.pairs) ≡ v
  unfolding change_block
  with_parts =
      let p = at2_bytes2 v.page ok.page in
      let r = at4_bytes4 v.round ok.round in
      let s : v.set % 256 ≡ v.set = omega (arith, ok.set) in
      let t = at4_bytes4 v.step ok.step in
      let x = before_part in
      let y = after_part in
      rw (x, y, p, r, s, t) refl

  pub content_of_change_block : content_of (change_block v) ≡ v
  unfolding content_of
  content_of_change_block = ap (λ ps. content_with (change_block v) ps (total ps)) pairs_part ∙ with_parts

  change_marked : Marked (change_block v)
  unfolding change_block
  change_marked =
      let e = sym (drop_of_between (change_block v) 16 32 (4 * length v.pairs)) ∙ ap (drop (4 * length v.pairs)) slots_part ∙ drop_at (flat_map pair_bytes v.pairs) (zeros (16 - 4 * length v.pairs)) (4 * length v.pairs) (length_pairs_bytes v.pairs) in
      record {
        first = refl;
        few = few;
        behind_set = zero_each _ 3 (ap (drop 1) (bytes4_low v.set ok.set) ∙ three_zeros);
        behind_pairs = zero_each _ _ e;
      }

  change_shaped : ChangeShaped (change_block v)
  change_shaped =
      let Rest : List Pair → Type 0 = λ ps. AllZero (between (32 + 2 * total ps) 512 (change_block v)) in
      record {
        marked = change_marked;
        rest = subst Rest (sym pairs_part) (zero_tail (change_block v) (32 + 2 * total v.pairs) 512 length_change_block (tail_part ∙ ap zeros (omega arith)));
      }

  -- the block as a writer joins it
  pub assembled_is : (r h : List ℕ) (s : List (List ℕ)) → r ≡ h ++ (flat_map (λ x. x) s ++ (v.before ++ (v.after ++ zeros (480 - (length v.before + length v.after))))) → h ≡ change_head v → s ≡ map pair_bytes (slots_of v.pairs) → r ≡ change_block v
  unfolding change_block
  assembled_is r h s d e f =
      let n : 480 - (length v.before + length v.after) ≡ 480 - 2 * total v.pairs = omega (arith, ok.before, ok.after) in
      let g = ap (flat_map (λ x. x)) f ∙ slots_bytes v.pairs few in
      d ∙ ap (λ k. h ++ (flat_map (λ x. x) s ++ (v.before ++ (v.after ++ zeros k)))) n ∙ ap (λ x. x ++ (flat_map (λ x. x) s ++ (v.before ++ (v.after ++ tail)))) e ∙ ap (λ x. change_head v ++ (x ++ (v.before ++ (v.after ++ tail)))) g

-- writing what was read
module _ (b : List ℕ) (long : length b ≡ 512) (small : AllBytes b) where
  slots_again : (n : ℕ) → n ≤ 4 → AllZero (between (16 + 4 * n) 32 b) → slot_bytes (pairs_in n (between 16 32 b)) ≡ between 16 32 b
  slots_again n few zero =
      let l : length (between 16 32 b) ≡ 16 = length-between b 16 32 (omega arith) in
      let w = written_pairs_in n (between 16 32 b) (omega arith) (bytes_between b 16 32 small) in
      let z = drop_of_between b 16 32 (4 * n) ∙ part_is_zeros b (16 + 4 * n) 32 (omega arith) zero in
      let m = length_pairs_in n (between 16 32 b) in
      let k : 32 - (16 + 4 * n) ≡ 16 - 4 * n = omega arith in
      cc

  head_again : (ps : List Pair) (t : ℕ) → Marked b → length ps ≡ get_or b 1 0 → change_head (content_with b ps t) ++ drop 16 b ≡ b
  head_again ps t mark n =
      let d0 : b ≡ bytes_from b 0 9 ++ drop 9 b = drop_bytes_from b 0 9 (omega arith) in
      let d9 = drop_split b 9 12 (omega arith) in
      let d12 = drop_bytes_from b 12 4 (omega arith) in
      let z9 = part_is_zeros b 9 12 (omega arith) mark.behind_set ∙ sym three_zeros in
      let f = mark.first in
      let p = bytes2_at2 b 2 small in
      let r = bytes4_at4 b 4 small in
      let m = bytes4_low (get_or b 8 0) (small 8) in
      let q = bytes4_at4 b 12 small in
      cc

  rest_again : (t : ℕ) → t ≤ 240 → AllZero (between (32 + 2 * t) 512 b) → between 16 32 b ++ (between 32 (32 + t) b ++ (between (32 + t) (32 + 2 * t) b ++ zeros (480 - 2 * t))) ≡ drop 16 b
  rest_again t fits rest =
      let d16 = drop_split b 16 32 (omega arith) in
      let d32 = drop_split b 32 (32 + t) (omega arith) in
      let dt = drop_split b (32 + t) (32 + 2 * t) (omega arith) in
      let zt = tail_is_zeros b (32 + 2 * t) 512 long rest in
      let k : 512 - (32 + 2 * t) ≡ 480 - 2 * t = omega arith in
      cc

  pub change_block_content_of : ChangeShaped b → ChangeOk (content_of b) → change_block (content_of b) ≡ b
  unfolding content_of change_block
  change_block_content_of s ok =
      let ps = pairs_of b in
      let t = total (pairs_of b) in
      let h = change_head (content_of b) in
      ap (λ x. h ++ (x ++ (between 32 (32 + t) b ++ (between (32 + t) (32 + 2 * t) b ++ zeros (480 - 2 * t))))) (slots_again (get_or b 1 0) s.marked.few s.marked.behind_pairs)
      ∙ ap (λ x. h ++ x) (rest_again t (ok_total (content_of b) ok) s.rest)
      ∙ head_again ps t s.marked (length_pairs_in (get_or b 1 0) (between 16 32 b))

pub changes : Layout ChangeOk change_block content_of ChangeShaped
changes = record {
  long = length_change_block;
  back = content_of_change_block;
  shaped = change_shaped;
  forth = change_block_content_of;
}
