-- A loop over the pages of a store, with the flag and the content of each.
use Rattle.std.proofs.Common.{◌≡◌, ℕ, suc, ◌+◌, ◌-◌, ◌<◌, ◌≤◌, Bool, false, Iter, List, ◌∷◌, length, drop, get_or, ◌⊎◌, inl, inr, sym, ap, ◌∙◌, arith}
use Rattle.std.proofs.lemmas.List.{length-drop, drop_more}
use Rattle.std.specs.Iterator.Adapters.{zip_first, zip_second}
use Rattle.std.specs.Slice.Iter.{iter_rest}
use Rattle.std.specs.declared.iter.Zip.{Zip}
use Rattle.std.specs.declared.ops.Range.{Range}
use Rattle.pages.specs.declared.Page.{Page}
use Rattle.pages.specs.Pages.{no_page}

-- the next element of what is left of a list
next_of : {X : Type 0} (xs ys : List X) (i : ℕ) (x d : X) → drop i xs ≡ x ∷ ys → (get_or xs i d ≡ x) × (ys ≡ drop (i + 1) xs)
next_of xs ys i x d e =
    let long : length xs - i ≡ suc (length ys) = sym (length-drop i xs) ∙ ap length e in
    let both : x ∷ ys ≡ get_or xs i d ∷ drop (i + 1) xs = sym e ∙ drop_more xs i d (omega arith) in
    (cc, cc)

abbrev Pages : Type 0
Pages = Zip (Range ℕ) (Zip (Iter Bool) (Iter Page))

-- the page that comes next
abbrev pub page_at : Pages → ℕ
page_at it = (zip_first it).start

abbrev flags : Pages → List Bool
flags it = iter_rest (zip_first (zip_second it))

abbrev contents : Pages → List Page
contents it = iter_rest (zip_second (zip_second it))

module _ (pages : ℕ) (s : List Bool) (t : List Page) where
  -- the flags and the contents that are left are those from the next page on
  pub record Left (it : Pages) : Type 0 where
    pub end : (zip_first it).end ≡ pages
    pub flags : flags it ≡ drop (page_at it) s
    pub contents : contents it ≡ drop (page_at it) t

  module _ (it : Pages) (now : Left it) where
    pub record Turn (it' : Pages) (p : ℕ) (b : Bool) (g : Page) : Type 0 where
      pub page : p ≡ page_at it
      pub more : page_at it < pages
      pub flag : get_or s (page_at it) false ≡ b
      pub content : get_or t (page_at it) no_page ≡ g
      pub next : page_at it' ≡ page_at it + 1
      pub left : Left it'

    pub page_turn : (it' : Pages) (page : ℕ) (flag : Bool) (content : Page) →
        ((zip_first it').end ≡ (zip_first it).end × (0 < (zip_first it).end - page_at it × page ≡ page_at it × page_at it' ≡ page_at it + 1)) ×
        (flags it ≡ flag ∷ flags it' × contents it ≡ content ∷ contents it') → Turn it' page flag content
    page_turn it' page flag content step =
        let f = next_of s (flags it') (page_at it) flag false (sym now.flags ∙ step.1.0) in
        let c = next_of t (contents it') (page_at it) content no_page (sym now.contents ∙ step.1.1) in
        record {
          page = step.0.1.1;
          more = omega (arith, now.end, step.0.1.0);
          flag = f.0;
          content = c.0;
          next = step.0.1.2;
          left = record { end = step.0.0 ∙ now.end; flags = rw step.0.1.2 f.1; contents = rw step.0.1.2 c.1 };
        }

    pub pages_over : length s ≡ 64 → length t ≡ 64 → ((zip_first it).end - page_at it ≡ 0) ⊎ ((length (flags it) ≡ 0) ⊎ (length (contents it) ≡ 0)) → (pages ≤ page_at it) ⊎ (64 ≤ page_at it)
    pages_over long wide over =
        elim over [
          | inl h ↦ inl (omega (arith, now.end, h))
          | inr (inl h) ↦ inr (omega (arith, long, length-drop (page_at it) s, ap length now.flags, h))
          | inr (inr h) ↦ inr (omega (arith, wide, length-drop (page_at it) t, ap length now.contents, h))
        ]
