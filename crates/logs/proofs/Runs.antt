-- A change offers its bytes run by run, and each run byte by byte.
use Rattle.std.proofs.Common.{◌≡◌, ℕ, suc, ◌+◌, ◌<◌, List, length, get_or, take, drop, sym, refl, arith}
use Rattle.std.proofs.lemmas.List.{drop_more}
use Rattle.change.specs.Pairs.{no_pair}
use Rattle.change.specs.declared.runs.Pair.{Pair}
use Rattle.later.specs.Keeping.{kept_later, kept_all}
use Rattle.later.specs.Stamps.{mark_upto}
use Rattle.later.specs.declared.Mark.{Mark}
use Rattle.later.specs.declared.Stamp.{Stamp}
use Rattle.model.specs.Logs.{stamped, spread}
use Rattle.logs.proofs.Scanning.{kept_all-++}

abbrev mark : Stamp → ℕ → Mark
mark s x = record { stamp = s; byte = x }

-- what is left of a run with byte i is left without it, once it is kept
pub run_more : (s : Stamp) (at : ℕ) (bytes : List ℕ) (l k : List Mark) (i : ℕ) → i < length bytes → k ≡ kept_later mark_upto l (at + i) (mark s (get_or bytes i 0)) → kept_all mark_upto k (stamped s (at + (i + 1)) (drop (i + 1) bytes)) ≡ kept_all mark_upto l (stamped s (at + i) (drop i bytes))
run_more s at bytes l k i h e =
    let j : at + (i + 1) ≡ suc (at + i) = omega arith in
    rw (j, e, drop_more bytes i 0 h) refl

-- what is left of a change with pair i is left without it, once its run is kept
module _ (s : Stamp) (start : ℕ) (ps : List Pair) (rest : List ℕ) (l : List Mark) (i : ℕ) where
  abbrev pair : Pair
  pair = get_or ps i no_pair

  pub pairs_more : (k : List Mark) → i < length ps → k ≡ kept_all mark_upto l (stamped s (start + pair.offset) (take pair.length rest)) → kept_all mark_upto k (spread s start (drop (i + 1) ps) (drop pair.length rest)) ≡ kept_all mark_upto l (spread s start (drop i ps) rest)
  pairs_more k h e =
      rw (e, drop_more ps i no_pair h)
      (sym (kept_all-++ mark_upto l (stamped s (start + pair.offset) (take pair.length rest)) (spread s start (drop (i + 1) ps) (drop pair.length rest))))
