-- A table of pages, as the model has its pages.
use Rattle.std.proofs.Common.{◌≡◌, ℕ, ◌<◌, cond, eqb, List, map, length, set, arith}
use Rattle.std.proofs.Math.ListN.{get_or-map}
use Rattle.std.proofs.lemmas.Grind.{common_steps}
use Rattle.model.specs.Rounds.{rest_page}
use Rattle.model.specs.Warming.{committed_by}
use Rattle.pages.specs.declared.Page.{Page}
use Rattle.pages.specs.Pages.{no_page, page_in, pages_in, contents_in, released, at_rest}

module _ (n : ℕ) (t : List Page) where
  pub pages_rest : (p : ℕ) → pages_in n (map at_rest t) p ≡ rest_page (contents_in n t p)
  pages_rest p = grind (arith, get_or-map at_rest t p no_page)

  pub pages_commit : (s p : ℕ) → pages_in n (map (released s) t) p ≡ committed_by s (pages_in n t p)
  pages_commit s p = grind (arith, get_or-map (released s) t p no_page)

  -- page p becomes x
  pub pages_set : (p : ℕ) (x : Page) → p < n → p < length t → (q : ℕ) → pages_in n (set t p x) q ≡ cond (eqb q p) (page_in x) (pages_in n t q)
  pages_set p x h l q = grind (arith, common_steps)
