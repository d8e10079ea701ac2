-- What a loop has read so far, before what is still to come.
use Rattle.std.proofs.Common.{◌≡◌, List, [], ◌∷◌, ◌++◌, Some, None, Option, refl, ap, append_assoc}
use Rattle.std.specs.Option.{option_map}
use Rattle.script.specs.Values.{both}

abbrev pub upon : {X : Type 0} → List X → Option (List X) → Option (List X)
upon xs o = option_map (λ ys. xs ++ ys) o

pub upon_none : {X : Type 0} (o : Option (List X)) → upon [] o ≡ o
upon_none None = refl
upon_none (Some ys) = refl

pub upon_more : {X : Type 0} (xs : List X) (x : X) (o : Option (List X)) → upon (xs ++ x ∷ []) o ≡ upon xs (both ◌∷◌ (Some x) o)
upon_more xs x None = refl
upon_more xs x (Some ys) = ap (λ l. Some l) (append_assoc xs (x ∷ []) ys)
