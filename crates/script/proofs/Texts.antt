-- What `str::from_utf8` says of a word.
use Rattle.std.proofs.Common.{◌≡◌, ℕ, List, Some, None, Ok, Err, Result, ap, ◌∙◌}
use Rattle.std.specs.Borrow.{Bor}
use Rattle.std.specs.Result.{MatchResult, result_ok}
use Rattle.std.specs.Str.{IsUtf8}

-- where the word is text, the text is the word
pub text_is : {E : Type 0} (Q : E → Type 0) (w : List ℕ) (r : Result (Bor (List ℕ)) E) (t : Bor (List ℕ)) → MatchResult r (λ s. (s.now ≡ w) × IsUtf8 w) Q → Some t ≡ result_ok r → t.now ≡ w
text_is Q w (Ok s) t h e = let same : t ≡ s = cc in ap (λ x. x.now) same ∙ h.0
text_is Q w (Err x) t h e = absurd cc

pub not_text : {E : Type 0} (Q : E → Type 0) (w : List ℕ) (r : Result (Bor (List ℕ)) E) → MatchResult r (λ s. (s.now ≡ w) × IsUtf8 w) (λ e. (IsUtf8 w → ⊥) × Q e) → None ≡ result_ok r → IsUtf8 w → ⊥
not_text Q w (Ok s) h e = absurd cc
not_text Q w (Err x) h e = h.0
