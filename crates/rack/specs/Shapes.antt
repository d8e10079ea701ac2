-- The shape of a rack: how many drives, and how many blocks each of them has.
--
--   LegalShape sizes      these sizes can be had: at most 10 drives, of at most 65,535 blocks each
--   drives_in s           how many drives the shape s has
--   size_in s d           how many blocks its drive d has
--   HoldsSizes sizes s    the shape s has drives of these sizes, drive 0 first, and nothing behind them
--   before a d            how many blocks the drives before d have, in the array a of sizes
--   total_in s            how many blocks all drives have
--   size_answer s d       the answer to the question for the blocks of drive d
--   place_in s d b        where block b of drive d lies among all blocks, if there is such a block
use Rattle.std.specs.Prelude.{◌≡◌, ℕ, ◌+◌, ◌≤◌, min, cond, ◌&&◌, List, length, take, sum, Some, None, Ok, Err, Option, Result, nat_lt, slice_index}
use Rattle.rack.specs.declared.RackFault.{RackFault}
use Rattle.rack.specs.declared.RackFault.TheVariants.{NoPlace}
use Rattle.rack.specs.declared.shape.Shape.{Shape}
use Rattle.rack.specs.Sizes.{Padded}

pub record LegalShape (sizes : List ℕ) : Type 0 where
  pub few : length sizes ≤ 10
  pub each : (d : ℕ) → slice_index sizes d ≤ 65535

abbrev pub drives_in : Shape → ℕ
drives_in s = min s.count 10

abbrev pub size_in : Shape → ℕ → ℕ
size_in s d = slice_index s.sizes d

pub record HoldsSizes (sizes : List ℕ) (s : Shape) : Type 0 where
  pub count : drives_in s ≡ length sizes
  pub size : (d : ℕ) → size_in s d ≡ slice_index sizes d
  pub padded : Padded s.sizes s.count

abbrev pub before : List ℕ → ℕ → ℕ
before a d = sum (take d a)

abbrev pub total_in : Shape → ℕ
total_in s = before s.sizes (drives_in s)

abbrev pub size_answer : Shape → ℕ → Result ℕ RackFault
size_answer s d = cond (nat_lt d (drives_in s)) (Ok (size_in s d)) (Err NoPlace)

abbrev pub place_in : Shape → ℕ → ℕ → Option ℕ
place_in s d b = cond (nat_lt d (drives_in s) && nat_lt b (size_in s d)) (Some (before s.sizes d + b)) None
