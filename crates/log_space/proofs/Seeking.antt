-- The search for a log that is not full, one log after the other: i of the n logs are tried, d is the next one, and x is
-- what the whole search finds.
use Rattle.std.proofs.Common.{◌≡◌, ℕ, suc, ◌+◌, ◌-◌, ◌<◌, ◌≤◌, Bool, true, false, sym, arith}
use Rattle.model.specs.Room.{next_log, seek}

module _ (full : ℕ → Bool) (n i d x : ℕ) (left : seek full n (n - i) d ≡ x) where
  pub seek_stops : i < n → false ≡ full d → d ≡ x
  seek_stops l p = let e : n - i ≡ suc (n - (i + 1)) = omega arith in rw (e, sym p) at left

  pub seek_more : i < n → true ≡ full d → seek full n (n - (i + 1)) (next_log n d) ≡ x
  seek_more l p = let e : n - i ≡ suc (n - (i + 1)) = omega arith in rw (e, sym p) at left

  pub seek_all : n ≤ i → d ≡ x
  seek_all l = let e : n - i ≡ 0 = omega arith in rw e at left
