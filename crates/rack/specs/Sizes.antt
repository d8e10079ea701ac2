-- How a shape keeps its drives' sizes: in an array of ten places, with 0 where there is no drive.
--
--   padded sizes        the ten places, of these sizes
--   Padded places n     the first n of the places are drives, and the others are 0
use Rattle.std.specs.Prelude.{◌≡◌, ℕ, ◌-◌, ◌≤◌, List, ◌++◌, length, take, replicate}

abbrev pub padded : List ℕ → List ℕ
padded sizes = sizes ++ replicate (10 - length sizes) 0

pub record Padded (places : List ℕ) (n : ℕ) : Type 0 where
  pub few : n ≤ 10
  pub full : length (take n places) ≡ n
  pub fill : places ≡ padded (take n places)
