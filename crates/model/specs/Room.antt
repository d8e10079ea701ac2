-- The log blocks that are unused in a round, and where the next record goes.
--
--   sum_logs f n           the sum of f over the logs 1 to n
--   free_in z used         the free blocks of a store of the shape z: those of all logs that are unused in this round, where
--                          `used d` blocks of drive d are used
--   is_full z used d       no block of the log d is free
--   next_log n d           the log after d of n logs, going round
--   seek full n k d        of the log d and the k - 1 after it, going round, the first that is not full
--   home_in z used turn    the log that takes the next record: the first with a free block, from the one whose turn it is
--   also_used used h       the blocks of each log that are used once the log h has taken a record
--   free w, home w         the same of the warm store w
--   filled_next w          the blocks of each log that are used once the next record is written
--   turn_next w            the log whose turn it is then
use Rattle.std.specs.Prelude.{ℕ, zero, suc, ◌+◌, ◌-◌, ◌%◌, Bool, cond, ◌==◌, nat_le}
use Rattle.model.specs.Store.{Shape, Warm}

abbrev pub sum_logs : (ℕ → ℕ) → ℕ → ℕ
sum_logs f zero = 0
sum_logs f (suc n) = sum_logs f n + f (suc n)

-- kept shut in proofs, since it is a sum
unfoldable pub free_in : Shape → (ℕ → ℕ) → ℕ
free_in z used = sum_logs (λ d. z.blocks d - used d) z.logs

abbrev pub is_full : Shape → (ℕ → ℕ) → ℕ → Bool
is_full z used d = nat_le (z.blocks d) (used d)

-- logs are numbered from 1
abbrev pub next_log : ℕ → ℕ → ℕ
next_log n d = suc (d % n)

abbrev pub seek : (ℕ → Bool) → ℕ → ℕ → ℕ → ℕ
seek full n zero d = d
seek full n (suc k) d = cond (full d) (seek full n k (next_log n d)) d

unfoldable pub home_in : Shape → (ℕ → ℕ) → ℕ → ℕ
home_in z used turn = seek (is_full z used) z.logs z.logs turn

abbrev pub also_used : (ℕ → ℕ) → ℕ → ℕ → ℕ
also_used used h d = cond (d == h) (suc (used d)) (used d)

abbrev pub free : Warm → ℕ
free w = free_in w.shape w.filled

abbrev pub home : Warm → ℕ
home w = home_in w.shape w.filled w.turn

abbrev pub filled_next : Warm → ℕ → ℕ
filled_next w = also_used w.filled (home w)

-- the turn passes to the log after the one that took the record
abbrev pub turn_next : Warm → ℕ
turn_next w = next_log w.shape.logs (home w)
