-- What a check's answer says of the fault that it looks for, and what a call's answer was before its error was mapped.
use Rattle.std.proofs.Common.{◌≡◌, Some, None, Ok, Err, Option, Result, sym, refl, ◌∙◌}
use Rattle.std.specs.Result.{MatchResult, IsErrAnd}
use Rattle.rack.specs.Meaning.{Meaning}
use Rattle.rack.specs.Answers.{answer}
use Rattle.model.specs.declared.Refusal.{Refusal}
use Rattle.model.specs.Store.{Store}
use Rattle.model.specs.Outcome.{Outcome, refused, Does}
use Rattle.model.proofs.Doing.{does_refused}

pub fault_at : {F : Type 0} (o : Option F) (f : F) → Err f ≡ answer o → o ≡ Some f
fault_at None f e = cc
fault_at (Some g) f e = cc

pub none_at : {F : Type 0} (o : Option F) (u : Unit {0}) → Ok u ≡ answer o → o ≡ None
none_at None u e = refl
none_at (Some g) u e = cc

-- a call that hands on what its check refused
pub refuses : (o : Outcome) (s : Store) (m : Meaning) (f : Refusal) → Err f ≡ answer o.fault → Does o s m (refused f) s m
refuses o s m f e = does_refused o s m f (fault_at o.fault f e)

-- the error that `map_err` mapped by g, and the value that it left
module _ {T E F : Type 0} (Q : E → F → Type 0) where
  pub mapped_err : (g : E → F) (gives : (e : E) (f : F) → Q e f → f ≡ g e) (r : Result T E) (q : Result T F) → MatchResult r (λ x. q ≡ Ok x) (λ e. IsErrAnd q (Q e)) → (f : F) → q ≡ Err f → (e : E) × (r ≡ Err e) × (f ≡ g e)
  mapped_err g gives (Ok x) q h f w = cc
  mapped_err g gives (Err e) (Ok x) h f w = absurd h
  mapped_err g gives (Err e) (Err d) h f w = let same : d ≡ f = cc in (e, refl, sym same ∙ gives e d h)

  pub mapped_ok : (r : Result T E) (q : Result T F) → MatchResult r (λ x. q ≡ Ok x) (λ e. IsErrAnd q (Q e)) → (x : T) → q ≡ Ok x → r ≡ Ok x
  mapped_ok (Ok y) q h x w = cc
  mapped_ok (Err e) (Ok y) h x w = absurd h
  mapped_ok (Err e) (Err f) h x w = cc
