-- What is known of a shape that a store can have.
use Rattle.std.proofs.Common.{◌≡◌, ℕ, suc, ◌-◌, ◌<◌, ◌≤◌, true, arith}
use Rattle.std.proofs.lemmas.Bool.Decides.{nat_tests}
use Rattle.model.specs.Store.{Shape, every, legal_log, legal}
use Rattle.frame.proofs.Every.{every_at}

-- pages that fit on drive 0 behind the head, and logs of 2 to 1,024 blocks
pub record LegalFacts (z : Shape) : Type 0 where
  pub some_pages : 1 ≤ z.pages
  pub few_pages : z.pages ≤ 64
  pub room : z.pages < z.blocks 0
  pub some_logs : 1 ≤ z.logs
  pub few_logs : z.logs ≤ 8
  pub log : (d : ℕ) → 1 ≤ d → d ≤ z.logs → (2 ≤ z.blocks d) × (z.blocks d ≤ 1024)

-- logs are counted from 0 there and drives from 1 here
each_log : (z : Shape) → every (λ d. legal_log (z.blocks (suc d))) z.logs ≡ true → (d : ℕ) → 1 ≤ d → d ≤ z.logs → (2 ≤ z.blocks d) × (z.blocks d ≤ 1024)
each_log z p d low high =
    let e : suc (d - 1) ≡ d = omega arith in
    let fine : legal_log (z.blocks d) ≡ true = rw e at (every_at (λ k. legal_log (z.blocks (suc k))) z.logs (d - 1) p (omega arith)) in
    (grind (arith, nat_tests), grind (arith, nat_tests))

pub legal_facts : (z : Shape) → legal z ≡ true → LegalFacts z
legal_facts z p = record {
  some_pages = grind (arith, nat_tests);
  few_pages = grind (arith, nat_tests);
  room = grind (arith, nat_tests);
  some_logs = grind (arith, nat_tests);
  few_logs = grind (arith, nat_tests);
  log = each_log z (grind (arith, nat_tests));
}

-- where the numbers are in their ranges, the logs decide
pub legal_by_logs : (z : Shape) → 1 ≤ z.pages → z.pages ≤ 64 → z.pages < z.blocks 0 → 1 ≤ z.logs → z.logs ≤ 8 →
    legal z ≡ every (λ d. legal_log (z.blocks (suc d))) z.logs
legal_by_logs z a b c d e = grind (arith, nat_tests)
