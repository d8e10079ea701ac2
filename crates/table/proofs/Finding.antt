-- The pages that recovery found.
use Rattle.std.proofs.Common.{◌≡◌, ℕ, zero, suc, ◌+◌, ◌*◌, ◌<◌, ◌≤◌, true, false, ltb, List, [], ◌∷◌, ◌++◌, map, length, get_or, take, drop, sym, refl, ap, ◌∙◌, ⊎_elim, arith}
use Rattle.std.proofs.lemmas.List.{ext_get_or, length-append, length-take-le, length-drop, length-map, get_or-take, get_or-drop, take-append-le, take-map, drop-map}
use Rattle.std.proofs.lemmas.Bool.{ltb-true, cases_Bool}
use Rattle.block.specs.Bytes.{zeros}
use Rattle.block.proofs.Zeros.{length_zeros, get_or_zeros}
use Rattle.later.specs.declared.Mark.{Mark}
use Rattle.model.specs.Rounds.{rest_page, found_page}
use Rattle.pages.specs.declared.Page.{Page}
use Rattle.pages.specs.Pages.{no_page, page_in, pages_in}
use Rattle.table.specs.Found.{mark_bytes, page_bytes, table_bytes}

-- zeros behind a list change no byte of it, since a byte past the end counts as zero
get_or_padded : (xs : List ℕ) (n i : ℕ) → get_or (xs ++ zeros n) i 0 ≡ get_or xs i 0
get_or_padded [] n i = get_or_zeros n i
get_or_padded (x ∷ xs) n zero = refl
get_or_padded (x ∷ xs) n (suc i) = get_or_padded xs n i

module _ (ks : List Mark) where
  module _ (p : ℕ) where
    abbrev rest : List ℕ
    rest = drop (p * 240) (mark_bytes ks)

    pub bytes_made : (xs : List ℕ) → length xs ≡ 240 → ((k : ℕ) → k < 240 → get_or xs k 0 ≡ get_or (mark_bytes ks) (p * 240 + k) 0) → xs ≡ page_bytes ks p
    unfolding page_bytes
    bytes_made xs long each =
        let enough : 240 ≤ length (rest ++ zeros 240) = simp (length-append, length_zeros) (omega arith) in
        ext_get_or 0 xs (take 240 (rest ++ zeros 240)) (long ∙ sym (length-take-le 240 (rest ++ zeros 240) enough)) (λ k l.
        let below : k < 240 = omega arith in
        each k below ∙ sym (get_or-take 240 (rest ++ zeros 240) k 0 below ∙ (get_or_padded rest 240 k ∙ get_or-drop (p * 240) (mark_bytes ks) k 0)))

    -- where the marks are long enough, no zeros follow
    bytes_found : p * 240 + 240 ≤ length ks → page_bytes ks p ≡ map (λ k. k.byte) (take 240 (drop (p * 240) ks))
    unfolding page_bytes
    bytes_found h =
        let enough : 240 ≤ length rest = simp (length-drop, length-map) (omega arith) in
        take-append-le 240 rest (zeros 240) enough ∙ (ap (take 240) (drop-map (λ k. k.byte) (p * 240) ks) ∙ take-map (λ k. k.byte) 240 (drop (p * 240) ks))

  -- where there is a mark for each byte of each page, the bytes in the table are those that were found
  pub pages_found : (n : ℕ) (t : List Page) → ((p : ℕ) → p < 64 → page_in (get_or t p no_page) ≡ rest_page (table_bytes n ks p)) →
      n ≤ 64 → length ks ≡ n * 240 → (p : ℕ) → pages_in n t p ≡ rest_page (found_page n ks p)
  pages_found n t each few l p = ⊎_elim has lacks (cases_Bool (ltb p n))
    where
      has : ltb p n ≡ true → pages_in n t p ≡ rest_page (found_page n ks p)
      has e =
          let h : p < n = ltb-true p n e in
          let bytes : table_bytes n ks p ≡ map (λ k. k.byte) (take 240 (drop (p * 240) ks)) = simp e (bytes_found p (omega arith)) in
          simp e (each p (omega arith) ∙ ap rest_page bytes)

      lacks : ltb p n ≡ false → pages_in n t p ≡ rest_page (found_page n ks p)
      lacks e = simp e
