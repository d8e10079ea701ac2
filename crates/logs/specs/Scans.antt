-- What the scans of one log find, in the words of the model.
--
--   counting ρ o               the value o of a block, if it is readable and counts in the round ρ
--   change_within pages r      the change of one of the pages that the record r is, if it is one
--   some_ill log m             some block of the log counts, and is no commit and no change of one of the pages
--   ok_if t, ok_unless t       Ok where t is true, or is false, and else the refusal that says: a bad record
--   commits_in log m           the sets with their commit numbers that the log gives
--   offers_of numbers d b v    the marks that the change v in block b of drive d offers, each with its place
--   offers_in log numbers m    the marks that the log offers, each with its place
--   named_in log m             the pages that the changes in the log name
use Rattle.std.specs.Prelude.{ℕ, ◌*◌, Bool, cond, if◌then◌else◌, not, List, Some, None, Option, Ok, Err, Result, ◌==◌, nat_lt}
use Rattle.rack.specs.Meaning.{Block, Meaning}
use Rattle.block.specs.Bytes.{at4}
use Rattle.change.specs.Changes.{Content}
use Rattle.later.specs.declared.Mark.{Mark}
use Rattle.model.specs.declared.Refusal.{Refusal}
use Rattle.model.specs.declared.Refusal.TheVariants.{BadRecord}
use Rattle.model.specs.Store.{some_of}
use Rattle.model.specs.Logs.{Record, change, commit, value_at, ill, commits_from, stamp_of, image_of, spread, offers_from, named_from}
use Rattle.logs.specs.declared.Log.{Log}

-- bytes 4 to 7 of every record are its round
abbrev pub counting : ℕ → Option Block → Option Block
counting ρ None = None
counting ρ (Some b) = cond (at4 b 4 == ρ) (Some b) None

-- a commit is none, nor is a change of another page
abbrev pub change_within : ℕ → Option Record → Option Content
change_within pages None = None
change_within pages (Some (commit c)) = None
change_within pages (Some (change v)) = if nat_lt v.page pages then Some v else None

-- such a block makes the whole log ill, wherever it stands
abbrev pub some_ill : Log → Meaning → Bool
some_ill log m = some_of (λ b. ill log.round log.pages (value_at m log.drive b)) log.blocks

-- the one thing that is wrong with a block: it holds a bad record
abbrev pub ok_if : Bool → Result (Unit {0}) Refusal
ok_if t = if t then Ok tt else Err BadRecord

-- the same, by what is wrong
abbrev pub ok_unless : Bool → Result (Unit {0}) Refusal
ok_unless t = ok_if (not t)

-- the blocks of the log, from the first to the last
abbrev pub commits_in : Log → Meaning → List (ℕ × ℕ)
commits_in log m = commits_from log.round m log.drive 0 log.blocks

-- a page has 240 bytes, and the marks of the pages stand one page behind the other
abbrev pub offers_of : List ℕ → ℕ → ℕ → Content → List (ℕ × Mark)
offers_of numbers d b v = spread (stamp_of numbers d b v) (v.page * 240) v.pairs (image_of numbers v)

-- what a change offers hangs on the commit numbers, so all logs are collected first
abbrev pub offers_in : Log → List ℕ → Meaning → List (ℕ × Mark)
offers_in log numbers m = offers_from numbers log.pages log.round m log.drive 0 log.blocks

-- a page is named as often as there are changes of it
abbrev pub named_in : Log → Meaning → List ℕ
named_in log m = named_from log.pages log.round m log.drive 0 log.blocks
