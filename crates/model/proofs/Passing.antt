-- A call that is not refused has passed each of its checks.
use Rattle.std.proofs.Common.{◌≡◌, Bool, true, false, None, Option, refl}
use Rattle.model.specs.declared.Refusal.{Refusal}
use Rattle.model.specs.Recovery.{when}

pub passed : (b : Bool) (f : Refusal) (rest : Option Refusal) → when b f rest ≡ None → (b ≡ false) × (rest ≡ None)
passed true f rest e = cc
passed false f rest e = (refl, e)
