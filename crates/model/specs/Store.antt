-- The states of a store, and the shapes that it can have.
--
--   Shape               how many pages, how many log drives, and the blocks of each drive; 0 for drives that are not there
--   shape_of pages m    the shape of a store of so many pages on the rack m
--   every f n           f holds of each number below n
--   some_of f n         f holds of some number below n
--   legal_log n         a log drive can have n blocks
--   legal z             a store can have the shape z
--   fits z m            the rack m has the shape z
--   Page, OpenSet       a page and an open set of a warm store
--   Warm                a store that takes changes
--   Collecting          a store that takes commit records: the commit number of each set, and which logs are taken
--   Applying            a store that takes change records: besides, which pages a change names
--   Store               the state of a store, with the caller's marks where they belong to it; it starts cold
use Rattle.std.specs.Prelude.{ℕ, zero, suc, ◌-◌, Bool, true, false, cond, ◌&&◌, ◌||◌, List, ◌==◌, nat_eq, nat_le, nat_lt}
use Rattle.rack.specs.Meaning.{Meaning}
use Rattle.later.specs.declared.Mark.{Mark}

pub record Shape : Type 0 where
  pub pages : ℕ
  pub logs : ℕ
  pub blocks : ℕ → ℕ

-- drive 0 holds the pages, and every other drive is a log
abbrev pub shape_of : ℕ → Meaning → Shape
shape_of pages m = record { pages = pages; logs = m.count - 1; blocks = λ d. cond (nat_lt d m.count) (m.size d) 0 }

abbrev pub every : (ℕ → Bool) → ℕ → Bool
every f zero = true
every f (suc n) = every f n && f n

abbrev pub some_of : (ℕ → Bool) → ℕ → Bool
some_of f zero = false
some_of f (suc n) = some_of f n || f n

-- 2 to 1,024 blocks
abbrev pub legal_log : ℕ → Bool
legal_log blocks = nat_le 2 blocks && nat_le blocks 1024

-- 1 to 64 pages, which fit on drive 0 behind the head, and 1 to 8 log drives
abbrev pub legal : Shape → Bool
legal z =
    nat_le 1 z.pages && (nat_le z.pages 64 && (nat_le (suc z.pages) (z.blocks 0) &&
    (nat_le 1 z.logs && (nat_le z.logs 8 && every (λ d. legal_log (z.blocks (suc d))) z.logs))))

abbrev pub fits : Shape → Meaning → Bool
fits z m = m.count == suc z.logs && every (λ d. nat_eq (m.size d) (z.blocks d)) (suc z.logs)

-- numbers: the commit number of each set from 0 to 255, 0 where it has none
pub record Collecting : Type 0 where
  pub shape : Shape
  pub round : ℕ
  pub numbers : List ℕ
  pub taken : ℕ → Bool

-- pages: whether a counting change names the page, for pages 0 to 63
pub record Applying : Type 0 where
  pub shape : Shape
  pub round : ℕ
  pub numbers : List ℕ
  pub taken : ℕ → Bool
  pub pages : List Bool

-- what is committed, what its holder made of it, the set that holds it (0: none), and whether a record names it in this round
pub record Page : Type 0 where
  pub committed : List ℕ
  pub working : List ℕ
  pub holder : ℕ
  pub touched : Bool

-- its number, its last step, and the log drives that hold a record of it
pub record OpenSet : Type 0 where
  pub number : ℕ
  pub steps : ℕ
  pub uses : ℕ → Bool

-- filled: the blocks of each log used in this round; turn: the log that is to take the next record; begun and commits: the
-- sets begun and committed in this round; spoilt: a stroke was refused
pub record Warm : Type 0 where
  pub shape : Shape
  pub round : ℕ
  pub page : ℕ → Page
  pub filled : ℕ → ℕ
  pub turn : ℕ
  pub begun : ℕ
  pub commits : ℕ
  pub sets : List OpenSet
  pub spoilt : Bool

pub data Store : Type 0 where
  cold : Store
  collecting : Collecting → List Mark → Store
  applying : Applying → List Mark → Store
  warm : Warm → Store
