use Rattle.std.proofs.Common.{rules, tests, ◌≡◌, ℕ, zero, suc, Bool, true, false, not, [], ◌∷◌, ◌&&◌, ◌||◌, map, refl, ap, sym, ◌∙◌, zero-add, add-one, arith}
use Rattle.std.specs.List.{list_all, range_with_len}
use Rattle.std.proofs.lemmas.Iterator.{YieldsList-from_range}
use Rattle.std.proofs.lemmas.Iterator.Search.{all_from_yields_List}
use Rattle.std.proofs.lemmas.List.Folds.{list_all-append, list_all-map}
use Rattle.std.proofs.lemmas.List.FromFn.{map-range_with_len_more}
use Rattle.model.specs.Store.{some_of}
use Rattle.model.specs.Logs.{value_at}
use Rattle.model.specs.Recovery.{is_none}
use Rattle.page_drive.proofs.are_readable.Goals as goal

neither : (a b : Bool) → (not a && (not b && true)) ≡ not (a || b)
neither true b = refl
neither false true = refl
neither false false = refl

-- each number below n fails a test where none passes it
all_fail : (f : ℕ → Bool) (n : ℕ) → list_all (λ t. t) (map (λ k. not (f k)) (range_with_len 0 n)) ≡ not (some_of f n)
all_fail f zero = refl
all_fail f (suc n) =
    let more = rw add-one at (map-range_with_len_more (λ k. not (f k)) 0 n n (zero-add n)) in
    ap (list_all (λ t. t)) more
    ∙ list_all-append (λ t. t) (map (λ k. not (f k)) (range_with_len 0 n)) (not (f n) ∷ [])
    ∙ rw (all_fail f n) (neither (some_of f n) (f n))

pub returns : goal.returns
returns g c =
    let m = g.R.Rack.meaning c.args.rack.now in
    let n = c.args.pages in
    let f : ℕ → Bool = λ p. is_none (value_at m 0 (suc p)) in
    all_from_yields_List (λ p. not (f p)) _ _ c.all.result c.all.ensures.ran (YieldsList-from_range 0 n n refl (omega arith)) (λ x b q k. search (rules, tests))
    ∙ sym (list_all-map (λ t. t) (λ k. not (f k)) (range_with_len 0 n)) ∙ all_fail f n
