-- Outcomes of begin, change and commit on a warm store, and what a read shows. The calls themselves are still to come.
--
--   is_tight w                      too few blocks are free for one more record and a commit of each open set
--   spoil w                         the store w once a stroke was refused
--   new_set s                       the open set of number s that has made no step
--   begin_fault w                   why begin refuses, if it does
--   with_begun w                    the store once the next set is begun
--   beginning w                     the outcome of begin
--   held_by_other s g               a set other than s holds the page g
--   changed s ps bytes g            the page g once the set s has put the joined bytes into the runs of the pairs ps
--   change_record w s p ps bytes    the record of that change of page p
--   record_plan w b                 the write of the block b where the next record goes
--   page_next w s p ps bytes q      page q once that change is made
--   with_change w s p ps bytes      the store once that change is made
--   change_fault w s p ps k m       why a change with k new bytes refuses on the rack m, if it does
--   edit_fault w s p ps k m         the same behind the checks of the store and the set
--   changing w s p ps bytes m       the outcome of change
--   shown s g                       what set s reads of the page g; 0 stands for a reader that is no set
--   shown_to w s p                  what set s reads of page p
--   read_fault w s p k              why a read into a buffer of k bytes refuses, if it does
--   committed_by s g                the page g once the set s is committed
--   flushes_of u d n                flushes of those of the n drives from d on that pass u, rising
--   commit_record w s               the record of the commit of set s
--   commit_plan w s                 the strokes of that commit
--   with_commit w s                 the store once it is made
--   without_set w s                 the store once the set s has ended that made no change
--   is_idle w s                     the open set s made no change
--   commit_fault w s m              why a commit refuses on the rack m, if it does
--   committing w s m                the outcome of commit
use Rattle.std.specs.Prelude.{ℕ, zero, suc, Bool, true, false, cond, not, ◌&&◌, ◌||◌, List, [], ◌∷◌, ◌++◌, length, None, Option, ◌==◌, nat_le, nat_lt}
use Rattle.rack.specs.declared.RackFault.TheVariants.{NoPlace}
use Rattle.rack.specs.Meaning.{Block, Meaning}
use Rattle.strokes.specs.declared.Stroke.{Stroke}
use Rattle.strokes.specs.declared.Stroke.TheVariants.{Write, Flush}
use Rattle.block.specs.declared.commits.Commit.{Commit}
use Rattle.block.specs.Commits.{commit_block}
use Rattle.change.specs.declared.runs.Pair.{Pair}
use Rattle.change.specs.Pairs.{covering}
use Rattle.change.specs.Changes.{Content, change_block}
use Rattle.change.specs.Edits.{gathered, overlaid}
use Rattle.model.specs.declared.Refusal.{Refusal}
use Rattle.model.specs.declared.Refusal.TheVariants.{OutOfStrokes, NoSet, NoPage, BadPairs, PageHeld, LogFull, TooManySets, SetsUsedUp, BadLength, Rack}
use Rattle.model.specs.Store.{Page, OpenSet, Warm, warm, fits}
use Rattle.model.specs.Outcome.{Outcome, number}
use Rattle.model.specs.Recovery.{when}
use Rattle.model.specs.Sets.{is_open, set_of, without, stepping}
use Rattle.model.specs.Room.{free, home, filled_next, turn_next}

-- each open set keeps a free block for the record of its commit
abbrev pub is_tight : Warm → Bool
is_tight w = nat_lt (free w) (suc (length w.sets))

-- it answers 1 until it is shut
abbrev pub spoil : Warm → Warm
spoil w = record { shape = w.shape; round = w.round; page = w.page; filled = w.filled; turn = w.turn; begun = w.begun; commits = w.commits; sets = w.sets; spoilt = true }

-- BEGIN

abbrev pub new_set : ℕ → OpenSet
new_set s = record { number = s; steps = 0; uses = λ _. false }

abbrev pub with_begun : Warm → Warm
with_begun w = record {
  shape = w.shape;
  round = w.round;
  page = w.page;
  filled = w.filled;
  turn = w.turn;
  begun = suc w.begun;
  commits = w.commits;
  sets = w.sets ++ (new_set (suc w.begun) ∷ []);
  spoilt = w.spoilt;
}

abbrev pub begin_fault : Warm → Option Refusal
begin_fault w =
    when w.spoilt OutOfStrokes (when (nat_le 8 (length w.sets)) TooManySets (when (nat_le 255 w.begun) SetsUsedUp (when (is_tight w) LogFull None)))

-- it answers the next set number
unfoldable pub beginning : Warm → Outcome
beginning w = record { fault = begin_fault w; plan = []; reply = number (suc w.begun); good = warm (with_begun w); short = warm w }

-- CHANGE

abbrev pub held_by_other : ℕ → Page → Bool
held_by_other s g = not (g.holder == 0) && not (g.holder == s)

abbrev pub changed : ℕ → List Pair → List ℕ → Page → Page
changed s ps bs g = record { committed = g.committed; working = overlaid ps bs g.working; holder = s; touched = true }

-- the set's next step; the before bytes are the committed ones
abbrev pub change_record : Warm → ℕ → ℕ → List Pair → List ℕ → Content
change_record w s p ps bs = record {
  page = p;
  round = w.round;
  set = s;
  step = suc (set_of w.sets s).steps;
  pairs = ps;
  before = gathered ps (w.page p).committed;
  after = bs;
}

-- the next free block of the log that takes the record
abbrev pub record_plan : Warm → Block → List Stroke
record_plan w b = Write (home w) (w.filled (home w)) b ∷ []

abbrev pub page_next : Warm → ℕ → ℕ → List Pair → List ℕ → ℕ → Page
page_next w s p ps bs q = cond (q == p) (changed s ps bs (w.page q)) (w.page q)

abbrev pub with_change : Warm → ℕ → ℕ → List Pair → List ℕ → Warm
with_change w s p ps bs = record {
  shape = w.shape;
  round = w.round;
  page = page_next w s p ps bs;
  filled = filled_next w;
  turn = turn_next w;
  begun = w.begun;
  commits = w.commits;
  sets = stepping w.sets s (home w);
  spoilt = w.spoilt;
}

-- the checks behind those of the store and the set; k: how many new bytes there are
abbrev pub edit_fault : Warm → ℕ → ℕ → List Pair → ℕ → Meaning → Option Refusal
edit_fault w s p ps k m =
    when (nat_le w.shape.pages p) NoPage
    (when (not (covering ps k)) BadPairs
    (when (held_by_other s (w.page p)) PageHeld (when (is_tight w) LogFull (when (not (fits w.shape m)) (Rack NoPlace) None))))

abbrev pub change_fault : Warm → ℕ → ℕ → List Pair → ℕ → Meaning → Option Refusal
change_fault w s p ps k m = when w.spoilt OutOfStrokes (when (not (is_open w.sets s)) NoSet (edit_fault w s p ps k m))

-- one record is written, and the page is held and touched; it answers the step
unfoldable pub changing : Warm → ℕ → ℕ → List Pair → List ℕ → Meaning → Outcome
changing w s p ps bs m = record {
  fault = change_fault w s p ps (length bs) m;
  plan = record_plan w (change_block (change_record w s p ps bs));
  reply = number (suc (set_of w.sets s).steps);
  good = warm (with_change w s p ps bs);
  short = warm (spoil w);
}

-- READ

-- the working content to the holder, the committed content to everybody else
abbrev pub shown : ℕ → Page → List ℕ
shown s g = cond (not (s == 0) && g.holder == s) g.working g.committed

abbrev pub shown_to : Warm → ℕ → ℕ → List ℕ
shown_to w s p = shown s (w.page p)

abbrev pub read_fault : Warm → ℕ → ℕ → ℕ → Option Refusal
read_fault w s p k =
    when w.spoilt OutOfStrokes
    (when (not (k == 240)) BadLength (when (not (s == 0 || is_open w.sets s)) NoSet (when (nat_le w.shape.pages p) NoPage None)))

-- COMMIT

-- what the set made of its pages is committed, and they are held no more
abbrev pub committed_by : ℕ → Page → Page
committed_by s g = cond (g.holder == s) (record { committed = g.working; working = g.working; holder = 0; touched = g.touched }) g

unfoldable pub flushes_of : (ℕ → Bool) → ℕ → ℕ → List Stroke
flushes_of u d zero = []
flushes_of u d (suc n) = cond (u d) (Flush d ∷ flushes_of u (suc d) n) (flushes_of u (suc d) n)

abbrev pub commit_record : Warm → ℕ → Commit
commit_record w s = record { round = w.round; set = s; number = suc w.commits }

-- the set's changes are settled before its commit is written, and that is settled too
abbrev pub commit_plan : Warm → ℕ → List Stroke
commit_plan w s = flushes_of (set_of w.sets s).uses 1 w.shape.logs ++ (record_plan w (commit_block (commit_record w s)) ++ (Flush (home w) ∷ []))

abbrev pub with_commit : Warm → ℕ → Warm
with_commit w s = record {
  shape = w.shape;
  round = w.round;
  page = λ p. committed_by s (w.page p);
  filled = filled_next w;
  turn = turn_next w;
  begun = w.begun;
  commits = suc w.commits;
  sets = without w.sets s;
  spoilt = w.spoilt;
}

-- such a set holds no page
abbrev pub without_set : Warm → ℕ → Warm
without_set w s = record {
  shape = w.shape;
  round = w.round;
  page = w.page;
  filled = w.filled;
  turn = w.turn;
  begun = w.begun;
  commits = w.commits;
  sets = without w.sets s;
  spoilt = w.spoilt;
}

-- the set made no change
abbrev pub is_idle : Warm → ℕ → Bool
is_idle w s = (set_of w.sets s).steps == 0

-- a call that makes no stroke does not look at the rack
abbrev pub commit_fault : Warm → ℕ → Meaning → Option Refusal
commit_fault w s m =
    when w.spoilt OutOfStrokes
    (when (not (is_open w.sets s)) NoSet (when (not (is_idle w s) && not (fits w.shape m)) (Rack NoPlace) None))

-- it answers the commit number; a set without changes ends with no stroke and answers 0
unfoldable pub committing : Warm → ℕ → Meaning → Outcome
committing w s m = record {
  fault = commit_fault w s m;
  plan = cond (is_idle w s) [] (commit_plan w s);
  reply = number (cond (is_idle w s) 0 (suc w.commits));
  good = warm (cond (is_idle w s) (without_set w s) (with_commit w s));
  short = warm (spoil w);
}
