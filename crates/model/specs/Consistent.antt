-- What is to hold of every warm store, once its calls are there; no type says it yet.
--
--   UsedFits w         no log has more blocks in use than blocks
--   TurnIsLog w        the turn is a log's
--   RoomToCommit w     a block is free for the commit of each open set
--   NumbersFit w       the sets begun are those committed, those open and perhaps more, and at most 255
--   OpenBegun w        an open set has a number from 1 on that was begun
--   StepsFit w         the steps of a set and the free blocks are together no more than the blocks of all logs
--   HoldersOpen w      a page is held by nobody, or by an open set that made a change
--   RestCommitted w    what nobody holds has its committed content for its working content
--   RoundFits w        the round has a number of four bytes
--   PagesSized w       what is committed in a page has 240 bytes, and so has its working content
--   Consistent w       all of this, on a shape that a store can have
use Rattle.std.specs.Prelude.{◌≡◌, ℕ, ◌+◌, ◌<◌, ◌≤◌, true, ◌||◌, length, ◌==◌, nat_le}
use Rattle.model.specs.Store.{Warm, legal}
use Rattle.model.specs.Sets.{is_open, set_of}
use Rattle.model.specs.Room.{sum_logs, free}

abbrev pub UsedFits : Warm → Type 0
UsedFits w = (d : ℕ) → w.filled d ≤ w.shape.blocks d

abbrev pub TurnIsLog : Warm → Type 0
TurnIsLog w = (1 ≤ w.turn) × (w.turn ≤ w.shape.logs)

-- so an open set can always commit
abbrev pub RoomToCommit : Warm → Type 0
RoomToCommit w = length w.sets ≤ free w

-- so there are no more commits than commit numbers
abbrev pub NumbersFit : Warm → Type 0
NumbersFit w = (w.commits + length w.sets ≤ w.begun) × (w.begun ≤ 255)

abbrev pub OpenBegun : Warm → Type 0
OpenBegun w = (s : ℕ) → is_open w.sets s ≡ true → (1 ≤ s) × (s ≤ w.begun)

-- each step has used a block
abbrev pub StepsFit : Warm → Type 0
StepsFit w = (s : ℕ) → (set_of w.sets s).steps + free w ≤ sum_logs w.shape.blocks w.shape.logs

-- a set that is not open has no steps
abbrev pub HoldersOpen : Warm → Type 0
HoldersOpen w = (p : ℕ) → ((w.page p).holder == 0 || nat_le 1 (set_of w.sets (w.page p).holder).steps) ≡ true

abbrev pub RestCommitted : Warm → Type 0
RestCommitted w = (p : ℕ) → (w.page p).holder ≡ 0 → (w.page p).working ≡ (w.page p).committed

abbrev pub RoundFits : Warm → Type 0
RoundFits w = w.round ≤ 4294967295

abbrev pub PagesSized : Warm → Type 0
PagesSized w = (p : ℕ) → p < w.shape.pages → (length (w.page p).committed ≡ 240) × (length (w.page p).working ≡ 240)

abbrev pub Consistent : Warm → Type 0
Consistent w =
    (legal w.shape ≡ true) × UsedFits w × TurnIsLog w × RoomToCommit w × NumbersFit w × OpenBegun w × StepsFit w × HoldersOpen w × RestCommitted w ×
    RoundFits w × PagesSized w
