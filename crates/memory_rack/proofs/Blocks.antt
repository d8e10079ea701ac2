-- Bytes written over others, and the blocks of 512 bytes that a row of bytes is cut into.
use Rattle.std.proofs.Common.{◌≡◌, ℕ, ◌+◌, ◌-◌, ◌*◌, ◌<◌, ◌≤◌, ◌⊎◌, List, ◌++◌, length, take, drop, inl, inr, add_assoc, append_assoc, arith}
use lib.Seq.{take-append-add}
use Rattle.std.proofs.lemmas.List.{append-nil, length-append, length-drop, length-take, length-take-le, drop-drop, drop-take, take-take, take-append-le, drop-append-le, drop_all}
use Rattle.std.proofs.lemmas.Slice.{drop-append-drop}
use Rattle.std.proofs.lemmas.Bool.{cases_order}
use Rattle.memory_rack.specs.Memory.{block_at, over}

pub length_over : (xs : List ℕ) (p : ℕ) (v : List ℕ) → p + length v ≤ length xs → length (over xs p v) ≡ length xs
length_over xs p v h = simp (length-append, length-drop, length-take) (omega arith)

-- as many bytes over all of them
pub over_all : (xs v : List ℕ) → length xs ≤ length v → over xs 0 v ≡ v
over_all xs v h = rw (drop_all (0 + length v) xs (omega arith), append-nil)

-- behind a place, the bytes are written over what is behind it
drop_over : (n : ℕ) (xs : List ℕ) (p : ℕ) (v : List ℕ) → n + p ≤ length xs → drop n (over xs (n + p) v) ≡ over (drop n xs) p v
drop_over n xs p v h =
    let l = length-take-le (n + p) xs h in
    rw (drop-append-le n (take (n + p) xs) (v ++ drop (n + p + length v) xs) (omega arith), drop-take n p xs, drop-drop (p + length v) n xs, add_assoc)

-- up to a place behind them, the bytes are written over what is before it
take_over : (ys : List ℕ) (p : ℕ) (v : List ℕ) (q : ℕ) → p ≤ length ys → take (p + (length v + q)) (over ys p v) ≡ over (take (p + (length v + q)) ys) p v
take_over ys p v q h =
    let front = rw (length-take-le p ys h) at (take-append-add (take p ys) (v ++ drop (p + length v) ys) (length v + q)) in
    rw (front, take-append-add v (drop (p + length v) ys) q, take-take p (p + (length v + q)) ys (omega arith), ← add_assoc p (length v) q, drop-take (p + length v) q ys)

module _ (xs : List ℕ) (i p : ℕ) (v : List ℕ) (whole : 512 * i + 512 ≤ length xs) (inside : p + length v ≤ 512) where
  pub block_here : block_at (over xs (512 * i + p) v) i ≡ over (block_at xs i) p v
  block_here =
      let e : p + (length v + (512 - (p + length v))) ≡ 512 = omega arith in
      rw (drop_over (512 * i) xs p v (omega arith)) (rw e at (take_over (drop (512 * i) xs) p v (512 - (p + length v)) (rw length-drop (omega arith))))

  pub block_other : (j : ℕ) → (j ≡ i → ⊥) → block_at (over xs (512 * i + p) v) j ≡ block_at xs j
  block_other j ne = go (length-take-le (512 * i + p) xs (omega arith)) (cases_order j i)
    where
      go : length (take (512 * i + p) xs) ≡ 512 * i + p → ((j ≡ i) ⊎ ((j < i) ⊎ (i < j))) → block_at (over xs (512 * i + p) v) j ≡ block_at xs j
      go l (inl e) = absurd (ne e)
      go l (inr (inl lt)) =
          rw (
            ← drop-take (512 * j) 512 (over xs (512 * i + p) v),
            ← drop-take (512 * j) 512 xs,
            take-append-le (512 * j + 512) (take (512 * i + p) xs) (v ++ drop (512 * i + p + length v) xs) (omega arith),
            take-take (512 * j + 512) (512 * i + p) xs (omega arith),
          )
      go l (inr (inr gt)) =
          rw (
            ← append_assoc (take (512 * i + p) xs) v (drop (512 * i + p + length v) xs),
            drop-append-drop (512 * i + p + length v) xs (take (512 * i + p) xs ++ v) (512 * j) (omega arith) (rw (length-append, l)),
          )
