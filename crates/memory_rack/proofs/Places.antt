-- Where the blocks lie: each in a place of its own, inside the memory.
use Rattle.std.proofs.Common.{◌≡◌, ℕ, ◌+◌, ◌*◌, ◌<◌, ◌≤◌, true, List, length, get_or, sum, take, IfOk, Ok, Err, Result, refl, ap, ⊎_elim, arith}
use Rattle.std.proofs.lemmas.Bool.{cases_lt}
use Rattle.std.proofs.lemmas.Bool.Decides.{nat_tests}
use Rattle.std.proofs.lemmas.List.{take_all, take-take, get_or_past}
use Rattle.std.proofs.lemmas.List.Sums.{sum_by_more, sum_by-take-le}
use Rattle.std.specs.Option.{ok_or}
use Rattle.rack.specs.declared.RackFault.{RackFault}
use Rattle.rack.specs.declared.RackFault.TheVariants.{NoPlace}
use Rattle.rack.specs.Answers.{within}
use Rattle.rack.specs.Shapes.{drives_in, before, total_in}
use Rattle.memory_rack.specs.Memory.{Kept, shown, place_of, placed}

-- a drive ends before a later drive begins
before_end : (a : List ℕ) (d n : ℕ) → d < n → before a d + get_or a d 0 ≤ before a n
before_end a d n p = ⊎_elim
    (λ (h : d < length a). omega (arith, sum_by_more (λ x. x) a d 0 h, ap sum (take-take (d + 1) n a (omega arith)), sum_by-take-le (λ x. x) (take n a) (d + 1)))
    (λ (h : length a ≤ d). rw (take_all d a h, take_all n a (omega arith), get_or_past a d 0 h) (omega arith))
    (cases_lt d (length a))

-- two blocks lie in one place only if they are the same block
pub same_place : (a : List ℕ) (d b e c : ℕ) → b < get_or a d 0 → c < get_or a e 0 → before a e + c ≡ before a d + b → (e ≡ d) × (c ≡ b)
same_place a d b e c p q h =
    let s : e ≡ d = grind (arith, before_end a e d, before_end a d e) in
    let t : before a e ≡ before a d = rw s in
    (s, omega arith)

-- what is known of a block that the rack shows
pub record Lies (k : Kept) (d b i : ℕ) : Type 0 where
  pub shows : within (shown k) d b ≡ true
  pub block : b < (shown k).size d
  pub place : i ≡ place_of k d b
  pub marked : i < length k.marks
  pub whole : 512 * i + 512 ≤ length k.bytes

-- a block that is shown has its memory
shown_lies : (k : Kept) (d b : ℕ) → within (shown k) d b ≡ true → Lies k d b (place_of k d b)
shown_lies k d b t =
    let q : d < drives_in k.shape = grind (arith, nat_tests) in
    let r : b < (shown k).size d = grind (arith, nat_tests) in
    let m : length k.marks ≡ total_in k.shape = grind (arith, nat_tests) in
    let w : length k.bytes ≡ 512 * total_in k.shape = grind (arith, nat_tests) in
    let e = before_end k.shape.sizes d (drives_in k.shape) q in
    record { shows = t; block = r; place = refl; marked = omega arith; whole = omega arith }

-- the same, from the place that was found
pub found_lies : (k : Kept) (d b i : ℕ) → Ok i ≡ ok_or (placed k d b) NoPlace → Lies k d b i
found_lies k d b i h =
    let t : within (shown k) d b ≡ true = grind (arith, nat_tests) in
    let p : i ≡ place_of k d b = grind (arith, nat_tests) in
    rw p (shown_lies k d b t)

-- a place that is found is inside the memory
pub found_inside : (k : Kept) (d b : ℕ) (r : Result ℕ RackFault) → r ≡ ok_or (placed k d b) NoPlace → IfOk r (λ i. (i < length k.marks) × (512 * i + 512 ≤ length k.bytes))
found_inside k d b (Ok i) h = let l = found_lies k d b i h in (l.marked, l.whole)
found_inside k d b (Err f) h = tt
