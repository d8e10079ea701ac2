-- The shape of a store on a rack, and the racks that have a shape.
use Rattle.std.proofs.Common.{◌≡◌, ℕ, suc, ◌-◌, ◌<◌, ◌≤◌, true, eqb, List, length, get_or, sym, ap, ◌∙◌, ⊎_elim, arith}
use Rattle.std.proofs.lemmas.List.{get_or_past}
use Rattle.std.proofs.lemmas.Bool.{cases_lt, cond_above, eqb-true}
use Rattle.rack.specs.Meaning.{Meaning}
use Rattle.model.specs.Store.{every, Shape, shape_of, legal, fits}
use Rattle.frame.specs.Frames.{blocks_on}
use Rattle.std.proofs.lemmas.Bool.Decides.{same_from_decides, nat_tests}
use Rattle.frame.specs.Shapes.{shape_with}
use Rattle.frame.proofs.Every.{every_at}
use Rattle.frame.proofs.Legal.{legal_facts}

-- 9 sizes say all of a rack with at most 9 drives
module _ (m : Meaning) (a : List ℕ) (nine : length a ≡ 9) (each : (d : ℕ) → d < 9 → get_or a d 0 ≡ blocks_on m d) where
  all_sizes : m.count ≤ 9 → (d : ℕ) → get_or a d 0 ≡ blocks_on m d
  all_sizes few d =
      ⊎_elim
      (λ (h : d < 9). each d h)
      (λ (h : 9 ≤ d). cond_above d m.count (m.size d) 0 (get_or a d 0) (omega arith) (get_or_past a d 0 (omega arith)))
      (cases_lt d 9)

  module _ (pages n : ℕ) (logs : n ≡ m.count - 1) where
    pub same_shape : n ≤ 8 → shape_with pages n a ≡ shape_of pages m
    same_shape few = λ i. record { pages = pages; logs = logs i; blocks = λ d. all_sizes (omega arith) d i }

    -- with more drives, neither shape is legal
    pub same_legal : legal (shape_with pages n a) ≡ legal (shape_of pages m)
    same_legal =
        same_from_decides (legal (shape_with pages n a)) (legal (shape_of pages m)) ((λ h. h), (λ h. h)) (
          (λ h. let few : m.count - 1 ≤ 8 = (legal_facts (shape_of pages m) h).few_logs in ap legal (same_shape (omega arith)) ∙ h),
          (λ h. sym (ap legal (same_shape (legal_facts (shape_with pages n a) h).few_logs)) ∙ h),
        )

-- the rack m has the drives of the shape z, and no others
pub record FitsFacts (z : Shape) (m : Meaning) : Type 0 where
  pub count : m.count ≡ suc z.logs
  pub size : (d : ℕ) → d ≤ z.logs → m.size d ≡ z.blocks d

pub fits_facts : (z : Shape) (m : Meaning) → fits z m ≡ true → FitsFacts z m
fits_facts z m p =
    let each : every (λ k. eqb (m.size k) (z.blocks k)) (suc z.logs) ≡ true = grind (arith, nat_tests) in
    record {
      count = grind (arith, nat_tests);
      size = λ d h. eqb-true (m.size d) (z.blocks d) (every_at (λ k. eqb (m.size k) (z.blocks k)) (suc z.logs) d each (omega arith));
    }
