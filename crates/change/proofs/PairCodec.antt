-- Pairs in bytes: reading what was written, and writing what was read.
use Rattle.std.proofs.Common.{◌≡◌, ℕ, zero, suc, ◌+◌, ◌-◌, ◌*◌, ◌<◌, ◌≤◌, true, Some, None, Option, MatchOption, List, [], ◌∷◌, ◌++◌, map, length, get_or, take, drop, sym, refl, ap, ◌∙◌, arith}
use Rattle.std.specs.List.{flat_map, between, range_with_len}
use Rattle.std.proofs.lemmas.List.{length-append, length-drop, get_or-drop, drop-drop}
use Rattle.std.proofs.lemmas.List.Edits.{get_or-between}
use Rattle.std.proofs.lemmas.Bool.{and_parts}
use Rattle.block.specs.Bytes.{zeros}
use Rattle.block.specs.Bytes.{bytes_from}
use Rattle.block.proofs.Numbers.{at2_bytes2, bytes2_at2, drop_bytes_from, AllBytes}
use Rattle.block.proofs.Zeros.{length_zeros}
use Rattle.change.specs.Pairs.{end_of, follows, in_order, slots_of, pair_bytes, pair_at, pairs_in}
use Rattle.change.specs.Changes.{slot_bytes}
use Rattle.change.specs.declared.runs.Pair.{Pair}
use Rattle.change.proofs.Parts.{drop_of_between}
use Rattle.change.proofs.PairLists.{follows_parts}

pub length_pairs_bytes : (ps : List Pair) → length (flat_map pair_bytes ps) ≡ 4 * length ps
length_pairs_bytes [] = refl
length_pairs_bytes (p ∷ ps) = let r = length_pairs_bytes ps in omega arith

pub length_slot_bytes : (ps : List Pair) → length ps ≤ 4 → length (slot_bytes ps) ≡ 16
length_slot_bytes ps h = omega (arith, length-append (flat_map pair_bytes ps) (zeros (16 - 4 * length ps)), length_pairs_bytes ps, length_zeros (16 - 4 * length ps))

-- the bytes of an empty pair are zero
pub slots_bytes : (ps : List Pair) → length ps ≤ 4 → flat_map pair_bytes (slots_of ps) ≡ slot_bytes ps
unfolding zeros
slots_bytes [] h = refl
slots_bytes (p ∷ []) h = refl
slots_bytes (p ∷ q ∷ []) h = refl
slots_bytes (p ∷ q ∷ r ∷ []) h = refl
slots_bytes (p ∷ q ∷ r ∷ s ∷ []) h = refl
slots_bytes (p ∷ q ∷ r ∷ s ∷ t ∷ ps) h = absurd (omega arith)

pub length_pairs_in : (n : ℕ) (bytes : List ℕ) → length (pairs_in n bytes) ≡ n
length_pairs_in zero bytes = refl
length_pairs_in (suc n) bytes = ap suc (length_pairs_in n (drop 4 bytes))

-- reading what was written
pub pairs_in_written : (ps : List Pair) (from : ℕ) (rest : List ℕ) → in_order from ps ≡ true → pairs_in (length ps) (flat_map pair_bytes ps ++ rest) ≡ ps
pairs_in_written [] from rest h = refl
pairs_in_written (p ∷ ps) from rest h =
    let a = and_parts (follows from p) (in_order (end_of p) ps) h in
    let f = follows_parts from p a.0 in
    let o = at2_bytes2 p.offset (omega arith) in
    let l = at2_bytes2 p.length (omega arith) in
    rw (o, l, pairs_in_written ps (end_of p) rest a.1) refl

-- writing what was read
pub written_pairs_in : (n : ℕ) (bytes : List ℕ) → 4 * n ≤ length bytes → AllBytes bytes → flat_map pair_bytes (pairs_in n bytes) ++ drop (4 * n) bytes ≡ bytes
written_pairs_in zero bytes h small = refl
written_pairs_in (suc n) bytes h small =
    let f : bytes ≡ bytes_from bytes 0 4 ++ drop 4 bytes = drop_bytes_from bytes 0 4 (omega arith) in
    let o = bytes2_at2 bytes 0 small in
    let l = bytes2_at2 bytes 2 small in
    let d : drop (4 * suc n) bytes ≡ drop (4 * n) (drop 4 bytes) = ap (λ k. drop k bytes) (omega arith) ∙ sym (drop-drop (4 * n) 4 bytes) in
    let rest = written_pairs_in n (drop 4 bytes) (omega (arith, length-drop 4 bytes)) (λ k. let e = get_or-drop 4 bytes k 0 in omega (arith, small (4 + k))) in
    cc

-- a pair, as a reader of a block finds it
abbrev pub pair_there : List ℕ → ℕ → Pair
pair_there b i = pair_at (between (16 + 4 * i) 512 b) 0

there : (b : List ℕ) (i : ℕ) → i < 4 → pair_there b i ≡ pair_at (between (16 + 4 * i) 32 b) 0
there b i h =
    let m = 16 + 4 * i in
    let same : (k : ℕ) → k < 4 → get_or (between m 512 b) k 0 ≡ get_or (between m 32 b) k 0 = λ k l. get_or-between b m 512 k 0 (omega arith) ∙ sym (get_or-between b m 32 k 0 (omega arith)) in
    rw (same 0 (omega arith), same 1 (omega arith), same 2 (omega arith), same 3 (omega arith)) refl

-- and so the first n that it reads from place i on are those that stand there
read_from : (n m i : ℕ) (b : List ℕ) → n ≤ m → i + n ≤ 4 → take n (map (pair_there b) (range_with_len i m)) ≡ pairs_in n (between (16 + 4 * i) 32 b)
read_from zero m i b h l = refl
read_from (suc n) zero i b h l = absurd (omega arith)
read_from (suc n) (suc m) i b h l =
    let next : drop 4 (between (16 + 4 * i) 32 b) ≡ between (16 + 4 * (i + 1)) 32 b = drop_of_between b (16 + 4 * i) 32 4 ∙ ap (λ j. between j 32 b) (omega arith) in
    rw (there b i (omega arith), next, read_from n m (i + 1) b (omega arith) (omega arith)) refl

pub read_pairs : (n : ℕ) (b : List ℕ) → n ≤ 4 → take n (map (pair_there b) (range_with_len 0 4)) ≡ pairs_in n (between 16 32 b)
read_pairs n b h = read_from n 4 0 b h (omega arith)

-- the answer of `Pairs::new` at the first n of the four, which are held as `list` says
pub kept_of : {X : Type 0} (list : X → List Pair) (n : ℕ) (first all : List Pair) (r : Option X) → n ≤ 4 → length first + 0 ≡ n → first ≡ all → MatchOption r (4 < length first) (λ held. list held ≡ first) → MatchOption r (4 < n) (λ held. list held ≡ all)
kept_of list n first all (Some held) few long e h = h ∙ e
kept_of list n first all None few long e h = omega (arith, h)
