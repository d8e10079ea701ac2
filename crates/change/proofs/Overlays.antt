-- The bytes in the runs of pairs, taken out of a content and put into it, run by run.
use Rattle.std.proofs.Common.{◌≡◌, ℕ, ◌+◌, ◌-◌, ◌<◌, ◌≤◌, true, false, cond, ◌&&◌, ltb, leb, ◌⊎◌, List, [], ◌∷◌, ◌++◌, map, length, get_or, take, drop, sym, refl, ap, ◌∙◌, inl, inr, append_assoc, rules, arith}
use Rattle.std.specs.List.{range_with_len, between}
use Rattle.std.proofs.lemmas.List.FromFn.{length-map-range_with_len, fill_by_all}
use Rattle.std.proofs.lemmas.List.Edits.{length-between}
use Rattle.std.proofs.lemmas.Bool.Decides.{nat_tests}
use Rattle.std.proofs.lemmas.List.{places, at_drop_more, at_drop_all, length-append, length-take-le, length-drop, take_at, get_or-take}
use Rattle.std.proofs.lemmas.Bool.{cases_Bool, and_parts, and_left, or_from, lt-leb, leb-true, ltb-true}
use Rattle.change.specs.Pairs.{end_of, follows, in_order, total, no_pair}
use Rattle.change.specs.Edits.{inside, covered, picked, gathered, overlaid}
use Rattle.change.specs.declared.runs.Pair.{Pair}
use Rattle.change.proofs.PairLists.{follows_parts, total_more}
use Rattle.change.proofs.Parts.{over}

-- the next pair of a walk over pairs in order
pub record Next (ps : List Pair) (i last : ℕ) : Type 0 where
  pub some : 1 ≤ (get_or ps i no_pair).length
  pub behind : last ≤ (get_or ps i no_pair).offset
  pub within : end_of (get_or ps i no_pair) ≤ 240
  pub order : in_order (end_of (get_or ps i no_pair)) (drop (i + 1) ps) ≡ true

pub next_pair : (ps : List Pair) (i last : ℕ) → i < length ps → in_order last (drop i ps) ≡ true → Next ps i last
next_pair ps i last h o =
    let a = and_parts (follows last (get_or ps i no_pair)) (in_order (end_of (get_or ps i no_pair)) (drop (i + 1) ps)) (sym (at_drop_more (in_order last) ps i no_pair h) ∙ o) in
    let b = follows_parts last (get_or ps i no_pair) a.0 in
    record { some = b.0; behind = b.1; within = b.2; order = a.1 }

-- the part of a list that a run takes is as long as the run
pub length_run : (xs : List ℕ) (i n : ℕ) → i + n ≤ length xs → length (between i (i + n) xs) ≡ n
length_run xs i n h = length-between xs i (i + n) h ∙ omega arith

-- GATHER

-- the pairs before place i are gathered in the first bytes of the buffer, up to `at`; their runs end at `last`
pub record Gathering (ps : List Pair) (content : List ℕ) (i at : ℕ) (buf : List ℕ) : Type 0 where
  pub last : ℕ
  pub low : at ≤ last
  pub high : last ≤ 240
  pub order : in_order last (drop i ps) ≡ true
  pub count : at + total (drop i ps) ≡ total ps
  pub front : take at buf ++ gathered (drop i ps) content ≡ gathered ps content

module _ (ps : List Pair) (content : List ℕ) (sized : length content ≡ 240) where
  pub gathering_more : (i at : ℕ) (buf : List ℕ) → i < length ps → length buf ≡ 240 → Gathering ps content i at buf →
      Gathering ps content (i + 1) (at + (get_or ps i no_pair).length) (over buf at (between (get_or ps i no_pair).offset ((get_or ps i no_pair).offset + (get_or ps i no_pair).length) content))
  gathering_more i at buf h l g =
      let n = next_pair ps i g.last h g.order in
      let p = get_or ps i no_pair in
      let t = total_more i ps h in
      let e : p.offset + p.length - p.offset ≡ p.length = omega arith in
      let part = between p.offset (p.offset + p.length) content in
      let long : length part ≡ p.length = length_run content p.offset p.length (omega (arith, n.within)) in
      let put : take (at + p.length) (over buf at part) ≡ take at buf ++ part =
      rw (append_assoc (take at buf) part (drop (at + length part) buf)) at (take_at (take at buf ++ part) (drop (at + length part) buf) (at + p.length) (length-append (take at buf) part ∙ omega (arith, length-take-le at buf (omega (arith, n.within, n.behind, g.low)), long))) in
      let all : gathered (drop i ps) content ≡ part ++ gathered (drop (i + 1) ps) content = at_drop_more (λ qs. gathered qs content) ps i no_pair h ∙ ap (λ k. take k (drop p.offset content) ++ gathered (drop (i + 1) ps) content) (sym e) in
      record {
        last = end_of p;
        low = omega (arith, n.behind, g.low);
        high = n.within;
        order = n.order;
        count = omega (arith, g.count);
        front = ap (λ xs. xs ++ gathered (drop (i + 1) ps) content) put ∙ append_assoc (take at buf) part _ ∙ ap (λ xs. take at buf ++ xs) (sym all) ∙ g.front;
      }

-- there are as many gathered bytes as the pairs cover
pub length_gathered : (last : ℕ) (ps : List Pair) (content : List ℕ) → length content ≡ 240 → in_order last ps ≡ true → length (gathered ps content) ≡ total ps
length_gathered last [] content l o = refl
length_gathered last (p ∷ ps) content l o =
    let a = and_parts (follows last p) (in_order (end_of p) ps) o in
    let b = follows_parts last p a.0 in
    let r = length_gathered (end_of p) ps content l a.1 in
    let enough : p.length ≤ length (drop p.offset content) = simp length-drop (omega (arith, b.2)) in
    length-append (take p.length (drop p.offset content)) (gathered ps content) ∙ omega (arith, length-take-le p.length (drop p.offset content) enough)

-- OVERLAY

-- a byte of a content that a part was put over
over_byte : (c part : List ℕ) (at n k : ℕ) → length part ≡ n → at + n ≤ length c → get_or (over c at part) k 0 ≡ cond (leb at k && ltb k (at + n)) (get_or part (k - at) 0) (get_or c k 0)
over_byte c part at n k l h =
    let front : length (take at c) ≡ at = length-take-le at c (omega arith) in
    grind (arith, nat_tests, places)

-- pairs that come behind cover nothing before
covered_behind : (last k : ℕ) (ps : List Pair) → in_order last ps ≡ true → k < last → covered ps k ≡ false
covered_behind last k [] o h = refl
covered_behind last k (p ∷ ps) o h =
    let a = and_parts (follows last p) (in_order (end_of p) ps) o in
    let b = follows_parts last p a.0 in
    or_from (inside p k) (covered ps k) (and_left (leb p.offset k) (ltb k (end_of p)) (lt-leb p.offset k (omega (arith, b.1)))) (covered_behind (end_of p) k ps a.1 (omega (arith, b.1)))

-- the byte k of a content with the pairs' bytes put in
abbrev byte : List Pair → List ℕ → List ℕ → ℕ → ℕ
byte ps bytes c k = cond (covered ps k) (picked ps bytes k) (get_or c k 0)

same_bytes : (ps qs : List Pair) (xs ys c d : List ℕ) → ((k : ℕ) → byte ps xs c k ≡ byte qs ys d k) → overlaid ps xs c ≡ overlaid qs ys d
unfolding overlaid
same_bytes ps qs xs ys c d h = λ j. map (λ k. h k j) (range_with_len 0 240)

-- the run of one pair is put in, and the others are to come
one_run : (p : Pair) (ps : List Pair) (bytes c : List ℕ) → p.length ≤ length bytes → end_of p ≤ length c → in_order (end_of p) ps ≡ true →
    overlaid ps (drop p.length bytes) (over c p.offset (take p.length bytes)) ≡ overlaid (p ∷ ps) bytes c
one_run p ps bytes c few fits order = same_bytes ps (p ∷ ps) (drop p.length bytes) bytes (over c p.offset (take p.length bytes)) c (λ k. go k (cases_Bool (inside p k)))
  where
    put : (k : ℕ) → get_or (over c p.offset (take p.length bytes)) k 0 ≡ cond (inside p k) (get_or (take p.length bytes) (k - p.offset) 0) (get_or c k 0)
    put k = over_byte c (take p.length bytes) p.offset p.length k (length-take-le p.length bytes few) fits

    go : (k : ℕ) → (inside p k ≡ true) ⊎ (inside p k ≡ false) → byte ps (drop p.length bytes) (over c p.offset (take p.length bytes)) k ≡ byte (p ∷ ps) bytes c k
    go k (inl e) =
        let a = and_parts (leb p.offset k) (ltb k (end_of p)) e in
        let low = leb-true p.offset k a.0 in
        let high = ltb-true k (end_of p) a.1 in
        let far = covered_behind (end_of p) k ps order high in
        let q : get_or (take p.length bytes) (k - p.offset) 0 ≡ get_or bytes (k - p.offset) 0 = get_or-take p.length bytes (k - p.offset) 0 (omega arith) in
        rw (far, put k, e) q
    go k (inr e) = rw (put k, e) refl

pub length_overlaid : (ps : List Pair) (bytes c : List ℕ) → length (overlaid ps bytes c) ≡ 240
unfolding overlaid
length_overlaid ps bytes c = length-map-range_with_len (byte ps bytes c) 0 240

-- nothing is to come
no_run : (bytes c : List ℕ) → length c ≡ 240 → overlaid [] bytes c ≡ c
unfolding overlaid
no_run bytes c l = sym (fill_by_all (λ k. get_or c k 0) c 240 0 l (λ k h. refl))

pub length_over : (c part : List ℕ) (at : ℕ) → at + length part ≤ length c → length (over c at part) ≡ length c
length_over c part at h = search (rules, places)

-- the runs of the pairs before place i are put in, and `rest` has the bytes of the others
pub record Laying (ps : List Pair) (bytes old : List ℕ) (i : ℕ) (rest new : List ℕ) : Type 0 where
  pub last : ℕ
  pub order : in_order last (drop i ps) ≡ true
  pub count : length rest ≡ total (drop i ps)
  pub sized : length new ≡ 240
  pub same : overlaid (drop i ps) rest new ≡ overlaid ps bytes old

module _ (ps : List Pair) (bytes old : List ℕ) where
  pub laying_more : (i : ℕ) (rest new : List ℕ) → i < length ps → Laying ps bytes old i rest new →
      Laying ps bytes old (i + 1) (drop (get_or ps i no_pair).length rest) (over new (get_or ps i no_pair).offset (take (get_or ps i no_pair).length rest))
  laying_more i rest new h g =
      let n = next_pair ps i g.last h g.order in
      let p = get_or ps i no_pair in
      let t = total_more i ps h in
      let few : p.length ≤ length rest = omega (arith, g.count) in
      let long : length (take p.length rest) ≡ p.length = length-take-le p.length rest few in
      record {
        last = end_of p;
        order = n.order;
        count = length-drop p.length rest ∙ omega (arith, g.count);
        sized = length_over new (take p.length rest) p.offset (omega (arith, n.within, g.sized)) ∙ g.sized;
        same =
            one_run p (drop (i + 1) ps) rest new few (omega (arith, n.within, g.sized)) n.order
            ∙ sym (at_drop_more (λ qs. overlaid qs rest new) ps i no_pair h) ∙ g.same;
      }

  pub laying_all : (i : ℕ) (rest new : List ℕ) → length ps ≤ i → Laying ps bytes old i rest new → new ≡ overlaid ps bytes old
  laying_all i rest new h g = sym (no_run rest new g.sized) ∙ sym (at_drop_all (λ qs. overlaid qs rest new) ps i h) ∙ g.same
