-- What the answer of a call tells.
use Rattle.std.proofs.Common.{◌≡◌, ℕ, ◌<◌, Ok, arith}
use Rattle.std.proofs.lemmas.Bool.Decides.{nat_tests}
use Rattle.rack.specs.Meaning.{Meaning}
use Rattle.rack.specs.Answers.{blocks_answer}

pub blocks_in : (m : Meaning) (d n : ℕ) → Ok n ≡ blocks_answer m d → (d < m.count) × (n ≡ m.size d)
blocks_in m d n p = (grind (arith, nat_tests), grind (arith, nat_tests))
