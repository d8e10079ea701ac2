-- The block of a head.
use Rattle.std.proofs.Common.{◌≡◌, ℕ, ◌≤◌, List, ◌++◌, length, drop, refl, arith}
use Rattle.block.specs.Bytes.{bytes_from}
use Rattle.block.specs.Heads.{HeadOk, head_block, head_of, HeadShaped}
use Rattle.block.specs.declared.Head.{Head}
use Rattle.block.proofs.Numbers.{at2_bytes2, at4_bytes4, drop_bytes_from, AllBytes, bytes2_at2, bytes4_at4, at2_fits, at4_fits}
use Rattle.block.proofs.Zeros.{length_zeros, tail_is_zeros, zero_tail}
use Rattle.block.proofs.Reading.{Layout}

pub length_head_block : (h : Head) → length (head_block h) ≡ 512
unfolding head_block
length_head_block h = simp length_zeros

-- reading what was written
pub head_of_head_block : (h : Head) → HeadOk h → head_of (head_block h) ≡ h
unfolding head_block
head_of_head_block h ok =
    let p = at2_bytes2 h.pages ok.pages in
    let r = at4_bytes4 h.round ok.round in
    let n = at2_bytes2 h.logs ok.logs in
    rw (p, r, n) refl

head_shaped : (h : Head) → HeadShaped (head_block h)
unfolding head_block
head_shaped h = record { first = refl; second = refl; rest = zero_tail (head_block h) 10 512 (simp length_zeros) refl }

-- writing what was read
head_block_head_of : (b : List ℕ) → length b ≡ 512 → AllBytes b → HeadShaped b → head_block (head_of b) ≡ b
unfolding head_block
head_block_head_of b l small s =
    let t = tail_is_zeros b 10 512 l s.rest in
    let f : b ≡ bytes_from b 0 10 ++ drop 10 b = drop_bytes_from b 0 10 (omega arith) in
    let p = bytes2_at2 b 2 small in
    let r = bytes4_at4 b 4 small in
    let n = bytes2_at2 b 8 small in
    cc

-- what stands in a block of bytes fits
pub head_of_ok : (b : List ℕ) → AllBytes b → 1 ≤ (head_of b).round → HeadOk (head_of b)
head_of_ok b small begun = record { begun = begun; pages = at2_fits b 2 small; round = at4_fits b 4 small; logs = at2_fits b 8 small }

pub heads : Layout HeadOk head_block head_of HeadShaped
heads = record {
  long = λ h ok. length_head_block h;
  back = head_of_head_block;
  shaped = λ h ok. head_shaped h;
  forth = λ b l small s ok. head_block_head_of b l small s;
}
