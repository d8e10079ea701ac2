-- The head of the next round.
use Rattle.std.proofs.Common.{◌≡◌, ℕ, suc, ◌+◌, ◌/◌, ◌%◌, ◌^◌, List, ◌∷◌, ◌++◌, ap, ◌∙◌, add-one, arith}
use Rattle.block.specs.Bytes.{bytes2, bytes4, zeros}
use Rattle.block.specs.Heads.{head_block}
use Rattle.block.specs.declared.Head.{Head}
use Rattle.model.specs.Format.{head_at}
use Rattle.table.specs.Heads.{head_shape, next_head}

-- four bytes have a number up to multiples of 2^32
same_bytes : (n : ℕ) → bytes4 (n % 2 ^ 32) ≡ bytes4 n
same_bytes n =
    let a : n % 2 ^ 32 % 256 ≡ n % 256 = omega arith in
    let b : n % 2 ^ 32 / 256 % 256 ≡ n / 256 % 256 = omega arith in
    let c : n % 2 ^ 32 / 65536 % 256 ≡ n / 65536 % 256 = omega arith in
    let d : n % 2 ^ 32 / 16777216 % 256 ≡ n / 16777216 % 256 = omega arith in
    cc

pub raised : (h : Head) → head_block (next_head h) ≡ head_at (head_shape h) (suc h.round)
unfolding head_block
raised h =
    let bytes : List ℕ → List ℕ = λ r. 3 ∷ 1 ∷ (bytes2 h.pages ++ (r ++ bytes2 h.logs)) ++ zeros 502 in
    ap bytes (same_bytes (h.round + 1) ∙ ap bytes4 (add-one h.round))
