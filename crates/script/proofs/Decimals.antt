-- The digits of a number, read from the left.
use Rattle.std.proofs.Common.{◌≡◌, ℕ, ◌+◌, ◌-◌, ◌*◌, ◌<◌, ◌≤◌, true, cond, ◌&&◌, leb, Iter, List, [], ◌∷◌, length, Some, None, Option, refl, sym, ap, ◌∙◌, arith}
use Rattle.std.proofs.lemmas.Bool.{le-leb}
use Rattle.std.proofs.lemmas.Bool.Decides.{nat_tests}
use Rattle.std.proofs.lemmas.Fn.{fronts}
use Rattle.std.proofs.lemmas.Str.{digit_value_digit}
use Rattle.std.specs.Borrow.{Bor}
use Rattle.std.specs.Char.{is_ascii_digit, digit_value}
use Rattle.std.specs.ControlFlow.{continue_value}
use Rattle.std.specs.declared.ops.ControlFlow.{ControlFlow}
use Rattle.std.specs.Iterator.{TryFoldsItems, TryFoldTurn, Yields}
use Rattle.std.specs.List.{FoldsTo}
use Rattle.std.specs.Option.{MatchOption}
use Rattle.std.specs.Str.{all_ascii_digits}
use Rattle.std.specs.Str.Parse.{digits_value_after}
use Rattle.script.specs.Values.{number_in}
use denote.Param.Members.{Mut, Called}

-- the number that n and then the digits w write, if they are digits and a u32 holds it
abbrev pub read_after : ℕ → List ℕ → Option ℕ
read_after n w = cond (all_ascii_digits w && leb (digits_value_after 10 n w) 4294967295) (Some (digits_value_after 10 n w)) None

-- the same of one byte
abbrev pub read_one : ℕ → ℕ → Option ℕ
read_one n c = cond (is_ascii_digit c && leb (n * 10 + (c - 48)) 4294967295) (Some (n * 10 + (c - 48))) None

grows : (n : ℕ) (w : List ℕ) → n ≤ digits_value_after 10 n w
grows n [] = omega arith
grows n (c ∷ w) = omega (arith, grows (n * 10 + digit_value c) w)

digit_is : (c : ℕ) → is_ascii_digit c ≡ true → digit_value c ≡ c - 48
digit_is c e = grind (arith, nat_tests, digit_value_digit)

one_fits : (n m c : ℕ) → Some m ≡ read_one n c → m ≤ 4294967295
one_fits n m c h = grind (arith, nat_tests)

one_more : (n m c : ℕ) (w : List ℕ) → Some m ≡ read_one n c → read_after n (c ∷ w) ≡ read_after m w
one_more n m c w h = grind (arith, nat_tests, digit_is)

-- a number that has outgrown a u32 stays too large
no_more : (n c : ℕ) (w : List ℕ) → None ≡ read_one n c → read_after n (c ∷ w) ≡ None
no_more n c w h = grind (arith, nat_tests, digit_is, grows)

at_end : (n : ℕ) (w : List ℕ) → length w ≡ 0 → n ≤ 4294967295 → read_after n w ≡ Some n
at_end n [] e fits = rw (le-leb n 4294967295 fits) refl
at_end n (c ∷ w) e fits = absurd (omega arith)

-- a closure that reads one byte, called at each
module _ (E : Type 0) {F : Type 0} (g : Mut F (ℕ × (Bor ℕ × Unit {0})) (Option ℕ))
    (turn : (f : F) (n : ℕ) (x : Bor ℕ) (v : Option ℕ) (h : F) → Called g f (n, (x, tt)) v h → v ≡ read_one n x.now) where
  onward : (xs : List (Bor ℕ)) (o : Option (Bor ℕ)) (s t u : Iter ℕ) (f q : F) (n a : ℕ) (r : Option ℕ) → n ≤ 4294967295 → Yields fronts s xs t → fronts t o u →
      FoldsTo {P = F × ℕ} (TryFoldTurn {E = E} g (λ v b. v ≡ continue_value b)) (f, n) xs (q, a) →
      MatchOption o (r ≡ Some a) (λ x. (v : Option ℕ) × (h : F) × (e : E) × Called g q (a, (x, tt)) v h × (v ≡ None) × (r ≡ None)) → r ≡ read_after n s.rest.now
  onward [] None s t u f q n a r fits y last ran end =
      let same : n ≡ a = ap (λ p. p.1) ran in
      end ∙ ap (λ m. Some m) (sym same) ∙ sym (at_end n s.rest.now (rw y last.0) fits)
  onward [] (Some x) s t u f q n a r fits y last ran (v, h, e, call, off, end) =
      let here : s.rest.now ≡ x.now ∷ u.rest.now = rw y last in
      let same : n ≡ a = ap (λ p. p.1) ran in
      rw (here, same) (end ∙ sym (no_more a x.now u.rest.now (sym off ∙ turn q a x v h call)))
  onward (x ∷ xs) o s t u f q n a r fits (j, here, y) last (k, (v, call, on), ran) end =
      let one : Some k.1 ≡ read_one n x.now = sym on ∙ turn f n x v k.0 call in
      rw here (onward xs o j t u k.0 q k.1 a r (one_fits n k.1 x.now one) y last ran end ∙ sym (one_more n k.1 x.now j.rest.now one))

  pub folded : (s u : Iter ℕ) (f : F) (w : List ℕ) (r : Option ℕ) → s.rest.now ≡ w → 0 < length w → length w ≤ 10 →
      TryFoldsItems fronts g (λ (v : Option ℕ) (b : ControlFlow E ℕ). v ≡ continue_value b) (λ _ q. q ≡ None) s f 0 r u → r ≡ number_in w
  folded s u f w r is some few h =
      let all : read_after 0 w ≡ number_in w = rw (le-leb 1 (length w) some, le-leb (length w) 10 few) refl in
      onward h.0 h.1 s h.4.0 u f h.2 0 h.3 r (omega arith) h.4.1 h.4.2 h.5 h.6 ∙ ap (λ l. read_after 0 l) is ∙ all
