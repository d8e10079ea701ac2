-- A scan goes from block to block, and puts what each block gives into a state as it goes.
use Rattle.std.proofs.Common.{◌≡◌, ℕ, zero, suc, ◌+◌, ◌-◌, ◌<◌, ◌≤◌, Bool, true, List, [], ◌∷◌, ◌++◌, set, refl, arith}
use Rattle.rack.specs.Meaning.{Meaning}
use Rattle.later.specs.Keeping.{kept_later, kept_all}
use Rattle.model.specs.Logs.{value_at, record_of, given, commits_from, offered, offers_from, named, named_from}
use Rattle.model.specs.Recovery.{marked}

-- a way to put the items of a list into a state, one after another
pub record Puts {S X : Type 0} (put : S → List X → S) : Type 0 where
  pub nothing : (s : S) → put s [] ≡ s
  pub both : (s : S) (xs ys : List X) → put s (xs ++ ys) ≡ put (put s xs) ys

-- what the n blocks from b on give, where each gives `at` of it
pub record Gathers {X : Type 0} (from : ℕ → ℕ → List X) (at : ℕ → List X) : Type 0 where
  pub none : (b : ℕ) → from b zero ≡ []
  pub more : (b n : ℕ) → from b (suc n) ≡ at b ++ from (suc b) n

module _ {S X : Type 0} {put : S → List X → S} {from : ℕ → ℕ → List X} {at : ℕ → List X} (p : Puts put) (g : Gathers from at) where
  -- what was left with block b is left without it, once it is put in
  pub scan_more : (s t : S) (b n : ℕ) → b < n → t ≡ put s (at b) → put t (from (b + 1) (n - (b + 1))) ≡ put s (from b (n - b))
  scan_more s t b n h e =
      let k : n - b ≡ suc (n - (b + 1)) = omega arith in
      let i : suc b ≡ b + 1 = omega arith in
      let m = g.more b (n - (b + 1)) in
      let j = p.both s (at b) (from (suc b) (n - (b + 1))) in
      cc

  -- behind the last block nothing is left
  pub scan_all : (s : S) (b n : ℕ) → n ≤ b → put s (from b (n - b)) ≡ s
  scan_all s b n h =
      let k : n - b ≡ 0 = omega arith in
      let e = g.none b in
      let j = p.nothing s in
      cc

-- what comes is kept by keep-the-later
pub kept_all-++ : {V : Type 0} (upto : V → V → Bool) (l : List V) (xs ys : List (ℕ × V)) → kept_all upto l (xs ++ ys) ≡ kept_all upto (kept_all upto l xs) ys
kept_all-++ upto l [] ys = refl
kept_all-++ upto l (x ∷ xs) ys = kept_all-++ upto (kept_later upto l x.0 x.1) xs ys

pub keeping : {V : Type 0} (upto : V → V → Bool) → Puts (kept_all upto)
keeping upto = record { nothing = λ l. refl; both = kept_all-++ upto }

-- the pages that come are marked
pub marked-++ : (ps : List Bool) (xs ys : List ℕ) → marked (xs ++ ys) ps ≡ marked ys (marked xs ps)
marked-++ ps [] ys = refl
marked-++ ps (x ∷ xs) ys = marked-++ (set ps x true) xs ys

pub marking : Puts (λ ps ns. marked ns ps)
marking = record { nothing = λ ps. refl; both = marked-++ }

-- the commits, offers and names of a log are gathered block by block
pub commits_gather : (ρ : ℕ) (m : Meaning) (d : ℕ) → Gathers (commits_from ρ m d) (λ b. given (record_of ρ (value_at m d b)))
unfolding commits_from
commits_gather ρ m d = record { none = λ b. refl; more = λ b n. refl }

pub offers_gather : (numbers : List ℕ) (pages ρ : ℕ) (m : Meaning) (d : ℕ) → Gathers (offers_from numbers pages ρ m d) (λ b. offered numbers pages d b (record_of ρ (value_at m d b)))
unfolding offers_from
offers_gather numbers pages ρ m d = record { none = λ b. refl; more = λ b n. refl }

pub names_gather : (pages ρ : ℕ) (m : Meaning) (d : ℕ) → Gathers (named_from pages ρ m d) (λ b. named pages (record_of ρ (value_at m d b)))
unfolding named_from
names_gather pages ρ m d = record { none = λ b. refl; more = λ b n. refl }
