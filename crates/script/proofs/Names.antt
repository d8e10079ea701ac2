-- A name that is compared with those of the commands.
use Rattle.std.proofs.Common.{◌≡◌, false, List, [], ◌∷◌, None, sym, subst, refl, rules, arith}
use Rattle.std.proofs.lemmas.Slice.Eq.{bytes_eq-Decides}
use Rattle.std.specs.List.{AllByRecursion as All}
use Rattle.std.specs.Str.{IsUtf8, bytes_eq}
use Rattle.script.specs.Commands.{Said, Form, form_of, forms}
use Rattle.script.specs.Words.{Word}

pub no_form : (fs : List (Word × Form Said)) (name : Word) (ws : List Word) → All (λ f. name ≡ f.0 → ⊥) fs → None ≡ form_of fs name ws
no_form [] name ws h = refl
no_form (f ∷ fs) name ws h =
    let d = bytes_eq-Decides name f.0 in
    let n = h.0 in
    let no : bytes_eq name f.0 ≡ false = grind arith in
    rw no (no_form fs name ws h.1)

-- all names are text
pub no_text : (name : Word) (ws : List Word) → (IsUtf8 name → ⊥) → None ≡ form_of forms name ws
no_text name ws bad = no_form forms name ws (search (rules, other))
  where
    other : (w : Word) → IsUtf8 w → name ≡ w → ⊥
    other w a e = bad (subst IsUtf8 (sym e) a)
