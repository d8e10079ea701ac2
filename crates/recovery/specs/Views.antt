-- The code's states and answers, as the model has them.
--
--   cold_in c             the cold store c
--   scan_in s             what recovery knows while it takes logs
--   collecting_in c       the collecting store c
--   applying_in a         the applying store a
--   log_in c d            the log on drive d, as the collecting store c reads it
--   number_reply r        the reply of a call that answers a number
--   moved_reply r         the reply of a call that moves a store on and answers a number
--   moved_store n b r     the store that it leaves: n of the new one, or b of the one it gave back
--   opened_reply r        what open replied
--   opened_store r ks     the store that open leaves, where the caller's marks are ks
--   turned_reply r        what turn replied
--   turned_store r ks     the store that turn leaves, where the caller's marks are ks
--   KeepsMarks r ks js    where open refused, the caller's marks are as they were
use Rattle.std.specs.Prelude.{◌≡◌, ℕ, List, Ok, Err, Result, OnErr}
use Rattle.later.specs.declared.Mark.{Mark}
use Rattle.drive_set.specs.Sets.{holds}
use Rattle.frame.specs.Frames.{shape_in}
use Rattle.logs.specs.declared.Log.{Log}
use Rattle.model.specs.declared.Refusal.{Refusal}
use Rattle.model.specs.Store.{Collecting as CollectingState, Applying as ApplyingState, Store, cold, collecting, applying}
use Rattle.model.specs.Outcome.{Reply, refused, number}
use Rattle.recovery.specs.declared.Cold.{Cold}
use Rattle.recovery.specs.declared.Scan.{Scan}
use Rattle.recovery.specs.declared.Collecting.{Collecting}
use Rattle.recovery.specs.declared.Applying.{Applying}
use Rattle.recovery.specs.declared.Refused.{Refused}

abbrev pub cold_in : Cold → Store
cold_in c = cold

abbrev pub scan_in : Scan → CollectingState
scan_in s = record { shape = shape_in s.frame; round = s.round; numbers = s.numbers; taken = holds s.taken }

abbrev pub collecting_in : Collecting → CollectingState
collecting_in c = scan_in c.scan

abbrev pub applying_in : Applying → ApplyingState
applying_in a = record { shape = shape_in a.scan.frame; round = a.scan.round; numbers = a.scan.numbers; taken = holds a.scan.taken; pages = a.named }

abbrev pub log_in : CollectingState → ℕ → Log
log_in c d = record { drive = d; blocks = c.shape.blocks d; round = c.round; pages = c.shape.pages }

abbrev pub number_reply : Result ℕ Refusal → Reply
number_reply (Ok n) = number n
number_reply (Err f) = refused f

abbrev pub moved_reply : {S T : Type 0} → Result (T × ℕ) (Refused S) → Reply
moved_reply (Ok (s, n)) = number n
moved_reply (Err r) = refused r.refusal

abbrev pub moved_store : {S T : Type 0} → (T → Store) → (S → Store) → Result (T × ℕ) (Refused S) → Store
moved_store next back (Ok (s, n)) = next s
moved_store next back (Err r) = back r.store

abbrev pub opened_reply : Result (Collecting × ℕ) (Refused Cold) → Reply
opened_reply r = moved_reply r

abbrev pub opened_store : Result (Collecting × ℕ) (Refused Cold) → List Mark → Store
opened_store r ks = moved_store (λ c. collecting (collecting_in c) ks) cold_in r

abbrev pub KeepsMarks : Result (Collecting × ℕ) (Refused Cold) → List Mark → List Mark → Type 0
KeepsMarks r ks js = OnErr r (js ≡ ks)

abbrev pub turned_reply : Result (Applying × ℕ) (Refused Collecting) → Reply
turned_reply r = moved_reply r

abbrev pub turned_store : Result (Applying × ℕ) (Refused Collecting) → List Mark → Store
turned_store r ks = moved_store (λ a. applying (applying_in a) ks) (λ c. collecting (collecting_in c) ks) r
