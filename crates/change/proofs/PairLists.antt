-- Lists of pairs.
use Rattle.std.proofs.Common.{◌≡◌, ℕ, ◌+◌, ◌<◌, ◌≤◌, true, List, [], ◌∷◌, length, get_or, drop, arith}
use Rattle.std.proofs.lemmas.List.{at_drop_more}
use Rattle.std.proofs.lemmas.Bool.Decides.{nat_tests}
use Rattle.std.proofs.lemmas.Bool.{and_parts}
use Rattle.change.specs.Pairs.{end_of, follows, in_order, well_paired, total, no_pair}
use Rattle.change.specs.declared.runs.Pair.{Pair}

-- what it is to follow, and to be well paired
pub follows_parts : (from : ℕ) (p : Pair) → follows from p ≡ true → (1 ≤ p.length) × (from ≤ p.offset) × (end_of p ≤ 240)
follows_parts from p h = (grind (arith, nat_tests), grind (arith, nat_tests), grind (arith, nat_tests))

pub paired_parts : (ps : List Pair) → well_paired ps ≡ true → (1 ≤ length ps) × (length ps ≤ 4) × (in_order 0 ps ≡ true)
paired_parts ps h = (grind (arith, nat_tests), grind (arith, nat_tests), grind (arith, nat_tests))

-- pairs in order lie within a page
pub total_bound : (from : ℕ) (ps : List Pair) → from ≤ 240 → in_order from ps ≡ true → from + total ps ≤ 240
total_bound from [] f h = omega arith
total_bound from (p ∷ ps) f h =
    let a = and_parts (follows from p) (in_order (end_of p) ps) h in
    let b = follows_parts from p a.0 in
    let r = total_bound (end_of p) ps b.2 a.1 in
    omega arith

pub total_more : (i : ℕ) (ps : List Pair) → i < length ps → total (drop i ps) ≡ (get_or ps i no_pair).length + total (drop (i + 1) ps)
total_more i ps h = at_drop_more total ps i no_pair h
