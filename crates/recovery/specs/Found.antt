-- What open has found when it refuses nothing.
--
--   Found m k c      a store stands on the rack m and can be read into k marks, and c is what is known of it before a log is taken
use Rattle.std.specs.Prelude.{◌≡◌, ℕ, false, replicate, Some, None}
use Rattle.rack.specs.Meaning.{Meaning}
use Rattle.block.specs.declared.Head.{Head}
use Rattle.page_drive.specs.Pages.{CanRead}
use Rattle.model.specs.Store.{Collecting, shape_of}
use Rattle.model.specs.Recovery.{head_on, open_fault}

pub record Found (m : Meaning) (k : ℕ) (c : Collecting) : Type 0 where
  pub head : Head
  pub stands : head_on m ≡ Some head
  pub fine : open_fault (Some head) k m ≡ None
  pub can : CanRead m head.pages k
  pub shape : c.shape ≡ shape_of head.pages m
  pub round : c.round ≡ head.round
  pub numbers : c.numbers ≡ replicate 256 0
  pub taken : (d : ℕ) → c.taken d ≡ false
