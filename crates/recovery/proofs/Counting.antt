-- What the counts of recovery count, by lists.
use Rattle.std.proofs.Common.{◌≡◌, ℕ, zero, suc, ◌+◌, ◌<◌, ◌≤◌, Bool, true, false, cond, not, eqb, List, length, get_or, take, sym, refl, ◌∙◌, ⊎_elim, zero-add, add-zero, add-one, arith}
use Rattle.std.specs.List.{count_by}
use Rattle.std.proofs.lemmas.List.{get_or_past, take_all}
use Rattle.std.proofs.lemmas.List.Recursion.{is_count_by}
use Rattle.std.proofs.lemmas.List.Sums.{count_by_more_yes, count_by_more_no}
use Rattle.std.proofs.lemmas.Bool.{cases_lt}
use Rattle.drive_set.specs.Sets.{tally}
use Rattle.model.specs.Recovery.{committed}

pub committed_is : (ns : List ℕ) → committed ns ≡ count_by (λ n. not (eqb n 0)) ns
committed_is = is_count_by committed (λ n. not (eqb n 0)) refl
    (λ n ns. elim (eqb n 0) as (λ t. cond t 0 1 + committed ns ≡ cond (not t) (1 + committed ns) (committed ns)) [ true ↦ zero-add (committed ns) | false ↦ refl ])

-- a page that there is no flag for is not named
more : (bs : List Bool) (n : ℕ) (b : Bool) → get_or bs n false ≡ b → n < length bs → count_by (λ b. b) (take (n + 1) bs) ≡ count_by (λ b. b) (take n bs) + cond b 1 0
more bs n true e h = count_by_more_yes (λ b. b) bs n false h e
more bs n false e h = count_by_more_no (λ b. b) bs n false h e ∙ sym (add-zero (count_by (λ b. b) (take n bs)))

pub tally_is : (bs : List Bool) (n : ℕ) → tally (λ p. get_or bs p false) n ≡ count_by (λ b. b) (take n bs)
unfolding tally
tally_is bs zero = refl
tally_is bs (suc n) =
    let e = tally_is bs n in
    ⊎_elim
    (λ (h : n < length bs). let f = rw add-one at (more bs n (get_or bs n false) refl h) in omega (arith, e, f))
    (λ (h : length bs ≤ n).
    let none : get_or bs n false ≡ false = get_or_past bs n false h in
    let same : take (suc n) bs ≡ take n bs = take_all (suc n) bs (omega arith) ∙ sym (take_all n bs h) in
    rw (none, same) (omega (arith, e)))
    (cases_lt n (length bs))
