-- A command made of what a reader gave.
use Rattle.std.proofs.Common.{◌≡◌, ℕ, List, [], ◌∷◌, drop, Some, None, Ok, Err, Option, Result, ap, refl, ◌∙◌}
use Rattle.std.specs.Option.{option_map, ok_or}
use Rattle.std.specs.Result.{MatchResult, IsOkAnd}
use Rattle.script.specs.Commands.{Said, Form, said, end, number}
use Rattle.script.specs.Reader.{Says, only_number, only_place}
use Rattle.script.specs.Values.{given, number_in}
use Rattle.script.specs.Words.{Word, first}
use Rattle.script.specs.declared.Command.{Command}
use Rattle.script.specs.declared.error.ParseError.{ParseError}
use Rattle.script.specs.declared.error.ParseError.TheVariants.{Unknown}

ended : {X Y : Type 0} (s : X → Y) (x : X) (ws : List Word) → option_map s (end x ws) ≡ end (s x) ws
ended s x [] = refl
ended s x (w ∷ ws) = refl

onward : {X Y : Type 0} (s : X → Y) (k : ℕ → Form X) (j : ℕ → Form Y) → ((n : ℕ) (ws : List Word) → option_map s (k n ws) ≡ j n ws) → (ws : List Word) → option_map s (number k ws) ≡ number j ws
onward s k j h ws = go (given (first ws) number_in)
  where
    go : (o : Option ℕ) → option_map s (given o (λ n. k n (drop 1 ws))) ≡ given o (λ n. j n (drop 1 ws))
    go None = refl
    go (Some n) = h n (drop 1 ws)

one : (s : ℕ → Said) (ws : List Word) → option_map s (only_number ws) ≡ number (λ n. end (s n)) ws
one s = onward s end (λ n. end (s n)) (ended s)

two : (s : ℕ × ℕ → Said) (ws : List Word) → option_map s (only_place ws) ≡ number (λ d. number (λ b. end (s (d, b)))) ws
two s = onward s (λ d. number (λ b. end (d, b))) (λ d. number (λ b. end (s (d, b)))) (λ d. onward s (λ b. end (d, b)) (λ b. end (s (d, b))) (λ b. ended s (d, b)))

mapped : {X : Type 0} (s : X → Said) (o : Option X) (r : Result X ParseError) (q : Result Command ParseError) (P : X → Command → Type 0) → r ≡ ok_or o Unknown →
    MatchResult r (λ x. IsOkAnd q (P x)) (λ e. q ≡ Err e) → ((x : X) (c : Command) → P x c → said c ≡ s x) → Says said q (option_map s o)
mapped s (Some y) (Ok x) (Ok c) P e m h = ap (λ v. Some v) (h x c m ∙ ap s cc)
mapped s (Some y) (Ok x) (Err z) P e m h = absurd m
mapped s None (Ok x) q P e m h = absurd cc
mapped s (Some y) (Err x) q P e m h = absurd cc
mapped s None (Err x) q P e m h = let same : q ≡ Err Unknown = cc in rw same refl

pub number_says : (s : ℕ → Said) (ws : List Word) (r : Result ℕ ParseError) (q : Result Command ParseError) (P : ℕ → Command → Type 0) → r ≡ ok_or (only_number ws) Unknown →
    MatchResult r (λ n. IsOkAnd q (P n)) (λ e. q ≡ Err e) → ((n : ℕ) (c : Command) → P n c → said c ≡ s n) → Says said q (number (λ n. end (s n)) ws)
number_says s ws r q P e m h = rw (← one s ws) (mapped s (only_number ws) r q P e m h)

pub place_says : (s : ℕ × ℕ → Said) (ws : List Word) (r : Result (ℕ × ℕ) ParseError) (q : Result Command ParseError) (P : ℕ × ℕ → Command → Type 0) → r ≡ ok_or (only_place ws) Unknown →
    MatchResult r (λ p. IsOkAnd q (P p)) (λ e. q ≡ Err e) → ((p : ℕ × ℕ) (c : Command) → P p c → said c ≡ s p) → Says said q (number (λ d. number (λ b. end (s (d, b)))) ws)
place_says s ws r q P e m h = rw (← two s ws) (mapped s (only_place ws) r q P e m h)
