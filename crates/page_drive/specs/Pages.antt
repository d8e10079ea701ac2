-- Pages read into the caller's marks.
--
--   pasted ks i new      the marks ks with new ones over them from place i on
--   CanRead m pages k    the store on the rack m has 1 to 64 pages, k marks are one for each page byte, and every page can be read
use Rattle.std.specs.Prelude.{◌≡◌, ℕ, suc, ◌*◌, ◌≤◌, false, List, length}
use Rattle.std.proofs.Math.Seq.{paste}
use Rattle.rack.specs.Meaning.{Meaning}
use Rattle.later.specs.declared.Mark.{Mark}
use Rattle.model.specs.Store.{some_of}
use Rattle.model.specs.Logs.{value_at}
use Rattle.model.specs.Recovery.{is_none}

abbrev pub pasted : List Mark → ℕ → List Mark → List Mark
pasted ks i new = paste ks i new (length new)

pub record CanRead (m : Meaning) (pages k : ℕ) : Type 0 where
  pub few : pages ≤ 64
  pub marks : k ≡ pages * 240
  pub readable : some_of (λ p. is_none (value_at m 0 (suc p))) pages ≡ false
