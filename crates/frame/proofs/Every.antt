-- Whether a test holds of each number below a bound.
use Rattle.std.proofs.Common.{◌≡◌, ℕ, zero, suc, ◌+◌, ◌<◌, ◌≤◌, Bool, true, List, length, get_or, take, drop, refl, ap, ◌∙◌, add-one, arith}
use Rattle.std.specs.Bool.{Decides}
use Rattle.std.specs.List.{list_all, slice_range}
use Rattle.std.proofs.Math.Bool.{and_comm}
use Rattle.std.proofs.lemmas.List.{get_or-drop, length-drop}
use Rattle.std.proofs.lemmas.List.Folds.{list_all_more}
use Rattle.std.proofs.lemmas.Bool.Decides.{Decides-below_and}
use Rattle.model.specs.Store.{every}

pub Decides-every : (f : ℕ → Bool) (n : ℕ) → Decides (every f n) ((k : ℕ) → k < n → f k ≡ true)
Decides-every f n = Decides-below_and f (λ k. f k ≡ true) (every f) (λ k. ((λ h. h), (λ h. h))) refl (λ n. and_comm (every f n) (f n)) n

-- what holds of each holds of one
pub every_at : (f : ℕ → Bool) (n k : ℕ) → every f n ≡ true → k < n → f k ≡ true
every_at f n k all = (Decides-every f n).0 all k

-- the first n elements, each by its place
firsts : (p : ℕ → Bool) (xs : List ℕ) (n : ℕ) → n ≤ length xs → list_all p (take n xs) ≡ every (λ k. p (get_or xs k 0)) n
firsts p xs zero h = refl
firsts p xs (suc n) h = let more = rw add-one at (list_all_more p xs n 0 h) in rw (more, firsts p xs n (omega arith)) refl

-- the n elements after the first
pub every_after_first : (p : ℕ → Bool) (xs : List ℕ) (n : ℕ) → n < length xs → list_all p (slice_range xs 1 (n + 1)) ≡ every (λ k. p (get_or xs (suc k) 0)) n
every_after_first p xs n room =
    let at : (k : ℕ) → get_or (drop 1 xs) k 0 ≡ get_or xs (suc k) 0 = λ k. get_or-drop 1 xs k 0 ∙ ap (λ i. get_or xs i 0) (omega arith) in
    ap (λ k. list_all p (take k (drop 1 xs))) (omega arith) ∙ firsts p (drop 1 xs) n (simp length-drop (omega arith)) ∙ (λ i. every (λ k. p (at k i)) n)
