-- From cold to applying: open, collect, turn, apply.
--
--   when b f rest          the refusal f where the test holds, and else what comes after
--   or_else o rest         the refusal o if there is one, and else what comes after
--   head_on m              the head that stands on the rack m, if one does
--   drive_mark x           the byte x with the stamp of a drive's own
--   drive_marks m n        the marks of the first n pages, as they stand on drive 0
--   open_fault h k m       why open is refused where the head is h and there are k marks, if it is
--   opening k m            the outcome of open with k marks
--   is_log z d             d is a log of a store of the shape z
--   also_taken t d         the logs taken, and d
--   untaken z t            how many logs are still untaken
--   collected c d m        the commit numbers, with those that log d gives
--   collect_fault c d m    why log d cannot be taken, whatever stands on it
--   collect_of c ks d m    the outcome of collect of log d; ks are the caller's marks, here and below
--   committed numbers      how many sets have a commit number
--   turning c ks           the outcome of turn
--   marked ns ps           the flags ps of the pages, with those of the pages ns set
--   applied a ks d m       the marks, with those that log d offers
--   apply_fault a k d m    why log d cannot be taken into k marks
--   apply_of a ks d m      the outcome of apply of log d
use Rattle.std.specs.Prelude.{ℕ, zero, suc, ◌+◌, ◌-◌, ◌*◌, Bool, true, false, cond, not, ◌&&◌, ◌||◌, List, [], ◌∷◌, ◌++◌, map, length, replicate, Some, None, Option, ◌==◌, nat_le, slice_set}
use Rattle.rack.specs.declared.RackFault.TheVariants.{NoPlace}
use Rattle.rack.specs.Meaning.{Block, Meaning}
use Rattle.block.specs.declared.Head.{Head}
use Rattle.block.specs.Readings.{head_in}
use Rattle.block.specs.Pages.{page_content}
use Rattle.later.specs.Keeping.{kept_all}
use Rattle.later.specs.Stamps.{mark_upto}
use Rattle.later.specs.declared.Stamp.TheVariants.{Drive}
use Rattle.later.specs.declared.Mark.{Mark}
use Rattle.drive_set.specs.Sets.{tally}
use Rattle.model.specs.declared.Refusal.{Refusal}
use Rattle.model.specs.declared.Refusal.TheVariants.{NoStore, PageUnreadable, BadRecord, BadLog, BadLength, Rack}
use Rattle.model.specs.Store.{Shape, shape_of, legal, fits, some_of, Collecting, Applying, Store, cold, collecting, applying}
use Rattle.model.specs.Outcome.{Outcome, Reply, done, number}
use Rattle.model.specs.Logs.{value_at, ill, commits_from, offers_from, named_from}

abbrev pub when : Bool → Refusal → Option Refusal → Option Refusal
when b f rest = cond b (Some f) rest

abbrev pub or_else : Option Refusal → Option Refusal → Option Refusal
or_else (Some f) rest = Some f
or_else None rest = rest

-- OPEN

-- a block that cannot be read holds no head
abbrev pub head_of_value : Option Block → Option Head
head_of_value None = None
head_of_value (Some b) = head_in b

abbrev pub head_on : Meaning → Option Head
head_on m = head_of_value (value_at m 0 0)

-- nothing is there
abbrev pub is_none : {X : Type 0} → Option X → Bool
is_none None = true
is_none (Some x) = false

abbrev pub drive_mark : ℕ → Mark
drive_mark x = record { stamp = Drive; byte = x }

-- the marks of a page in this block
abbrev pub page_marks : Option Block → List Mark
page_marks None = []
page_marks (Some b) = map drive_mark (page_content b)

unfoldable pub drive_marks : Meaning → ℕ → List Mark
drive_marks m zero = []
drive_marks m (suc p) = drive_marks m p ++ page_marks (value_at m 0 (suc p))

-- no head, or one that does not fit the rack; marks of the wrong length; an unreadable page
abbrev pub open_fault : Option Head → ℕ → Meaning → Option Refusal
open_fault None k m = Some NoStore
open_fault (Some h) k m =
    when (not (h.logs == m.count - 1 && legal (shape_of h.pages m))) NoStore
    (when (not (k == h.pages * 240)) BadLength
    (when (some_of (λ p. is_none (value_at m 0 (suc p))) h.pages) PageUnreadable None))

-- a store that has taken no log yet
abbrev pub opened : Option Head → Meaning → Store
opened None m = cold
opened (Some h) m =
    collecting (record { shape = shape_of h.pages m; round = h.round; numbers = replicate 256 0; taken = λ _. false }) (drive_marks m h.pages)

-- the round, as the answer
abbrev pub round_reply : Option Head → Reply
round_reply None = done
round_reply (Some h) = number h.round

-- open makes no stroke and answers the round; the caller gives k marks
unfoldable pub opening : ℕ → Meaning → Outcome
opening k m = record { fault = open_fault (head_on m) k m; plan = []; reply = round_reply (head_on m); good = opened (head_on m) m; short = cold }

-- COLLECT

-- logs are drives 1 to n
abbrev pub is_log : Shape → ℕ → Bool
is_log z d = nat_le 1 d && nat_le d z.logs

abbrev pub also_taken : (ℕ → Bool) → ℕ → ℕ → Bool
also_taken t d e = e == d || t e

-- n less the count of those taken; drives are below 16
abbrev pub untaken : Shape → (ℕ → Bool) → ℕ
untaken z t = z.logs - tally t 16

-- of two commit numbers of a set the larger stays
abbrev pub collected : Collecting → ℕ → Meaning → List ℕ
collected c d m = kept_all nat_le c.numbers (commits_from c.round m d 0 (c.shape.blocks d))

-- a log that is none or is taken; a rack of another shape
abbrev pub collect_fault : Collecting → ℕ → Meaning → Option Refusal
collect_fault c d m = when (not (is_log c.shape d && not (c.taken d))) BadLog (when (not (fits c.shape m)) (Rack NoPlace) None)

-- besides, a block that counts and is no record
unfoldable pub collect_of : Collecting → List Mark → ℕ → Meaning → Outcome
collect_of c ks d m = record {
  fault = or_else (collect_fault c d m) (when (some_of (λ b. ill c.round c.shape.pages (value_at m d b)) (c.shape.blocks d)) BadRecord None);
  plan = [];
  reply = number (untaken c.shape (also_taken c.taken d));
  good = collecting (record { shape = c.shape; round = c.round; numbers = collected c d m; taken = also_taken c.taken d }) ks;
  short = collecting c ks;
}

-- TURN

-- a set without a commit number has 0
abbrev pub committed : List ℕ → ℕ
committed [] = 0
committed (k ∷ ks) = cond (k == 0) 0 1 + committed ks

-- only when every log is taken; it answers how many sets have a commit number
unfoldable pub turning : Collecting → List Mark → Outcome
turning c ks = record {
  fault = when (not (untaken c.shape c.taken == 0)) BadLog None;
  plan = [];
  reply = number (committed c.numbers);
  good = applying (record { shape = c.shape; round = c.round; numbers = c.numbers; taken = λ _. false; pages = replicate 64 false }) ks;
  short = collecting c ks;
}

-- APPLY

-- a page that there is no flag for changes nothing
abbrev pub marked : List ℕ → List Bool → List Bool
marked [] ps = ps
marked (n ∷ ns) ps = marked ns (slice_set ps n true)

-- of two marks of a byte the later stays
abbrev pub applied : Applying → List Mark → ℕ → Meaning → List Mark
applied a ks d m = kept_all mark_upto ks (offers_from a.numbers a.shape.pages a.round m d 0 (a.shape.blocks d))

-- a log that is none or is taken; marks of the wrong length; a rack of another shape
abbrev pub apply_fault : Applying → ℕ → ℕ → Meaning → Option Refusal
apply_fault a k d m =
    when (not (is_log a.shape d && not (a.taken d))) BadLog
    (when (not (k == a.shape.pages * 240)) BadLength (when (not (fits a.shape m)) (Rack NoPlace) None))

unfoldable pub apply_of : Applying → List Mark → ℕ → Meaning → Outcome
apply_of a ks d m = record {
  fault = apply_fault a (length ks) d m;
  plan = [];
  reply = number (untaken a.shape (also_taken a.taken d));
  good = applying (record {
    shape = a.shape;
    round = a.round;
    numbers = a.numbers;
    taken = also_taken a.taken d;
    pages = marked (named_from a.shape.pages a.round m d 0 (a.shape.blocks d)) a.pages;
  }) (applied a ks d m);
  short = applying a ks;
}
