-- What a reader of changes finds in a block b: the pairs ps, and the sum s of their lengths.
use Rattle.std.proofs.Common.{◌≡◌, ℕ, ◌+◌, ◌*◌, ◌≤◌, Bool, true, false, cond, List, length, get_or, Some, None, sym, refl, ap, ◌∙◌, subst, arith}
use Rattle.std.specs.List.{between}
use Rattle.std.proofs.lemmas.List.Edits.{length-between}
use Rattle.std.proofs.lemmas.Bool.{both_ways}
use Rattle.block.specs.Bytes.{at4, AllZero}
use Rattle.block.proofs.Numbers.{AllBytes, at2_fits, at4_fits}
use Rattle.change.specs.Pairs.{well_paired, total, total_in}
use Rattle.change.specs.Changes.{ChangeOk, content_with, pairs_of, content_of, Marked, ChangeShaped}
use Rattle.change.specs.declared.runs.Pair.{Pair}
use Rattle.change.proofs.PairLists.{paired_parts, total_bound}

some_answer : (b : Bool) (s t : ℕ) → Some s ≡ cond b (Some t) None → (b ≡ true) × (s ≡ t)
some_answer true s t e = (refl, cc)
some_answer false s t e = cc

no_answer : (b : Bool) (t : ℕ) → None ≡ cond b (Some t) None → b ≡ false
no_answer true t e = cc
no_answer false t e = refl

module _ (b : List ℕ) (ps : List Pair) (found : ps ≡ pairs_of b) where
  -- no sum: these pairs stand in no change
  pub no_sum : None ≡ total_in ps → ChangeOk (content_of b) → ⊥
  unfolding content_of
  no_sum e ok = both_ways (well_paired ps) (no_answer (well_paired ps) (total ps) e) (ap well_paired found ∙ ok.paired)

  module _ (s : ℕ) (sum : Some s ≡ total_in ps) where
    sum_is : s ≡ total (pairs_of b)
    sum_is = (some_answer (well_paired ps) s (total ps) sum).1 ∙ ap total found

    paired : well_paired (pairs_of b) ≡ true
    paired = ap well_paired (sym found) ∙ (some_answer (well_paired ps) s (total ps) sum).0

    -- the tail, as the reader looks at it
    abbrev Rest : ℕ → Type 0
    Rest n = AllZero (between (32 + 2 * n) 512 b)

    pub shaped_from : Marked b → Rest s → ChangeShaped b
    shaped_from mark rest = record { marked = mark; rest = subst Rest sum_is rest }

    pub rest_from : ChangeShaped b → Rest s
    rest_from shaped = subst Rest (sym sum_is) shaped.rest

    pub content_is : content_with b ps s ≡ content_of b
    unfolding content_of
    content_is = let e = sum_is in cc

    pub content_ok : length b ≡ 512 → AllBytes b → 1 ≤ get_or b 8 0 → 1 ≤ at4 b 12 → ChangeOk (content_of b)
    unfolding content_of
    content_ok long small set step =
        let fits : total (pairs_of b) ≤ 240 = omega (arith, total_bound 0 (pairs_of b) (omega arith) (paired_parts (pairs_of b) paired).2) in
        record {
          page = at2_fits b 2 small;
          round = at4_fits b 4 small;
          some_set = set;
          set = small 8;
          some_step = step;
          step = at4_fits b 12 small;
          paired = paired;
          before = length-between b 32 (32 + total (pairs_of b)) (omega arith) ∙ omega arith;
          after = length-between b (32 + total (pairs_of b)) (32 + 2 * total (pairs_of b)) (omega arith) ∙ omega arith;
        }

-- set and step are not 0
pub content_begun : (b : List ℕ) → ChangeOk (content_of b) → (1 ≤ get_or b 8 0) × (1 ≤ at4 b 12)
unfolding content_of
content_begun b ok = (ok.some_set, ok.some_step)
