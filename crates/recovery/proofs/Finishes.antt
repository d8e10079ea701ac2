-- What finish does, from how the strokes that end the round were played.
use Rattle.std.proofs.Common.{◌≡◌, ℕ, suc, ◌+◌, ◌*◌, ◌<◌, true, false, not, eqb, leb, List, [], length, take, drop, Some, None, Ok, Option, sym, ap, ◌∙◌, subst, add-one, arith}
use Rattle.std.proofs.lemmas.List.{length-map, length-take, length-drop}
use Rattle.std.proofs.lemmas.Bool.{eqb-true, not-false, lt-ltb}
use Rattle.rack.specs.declared.RackFault.{RackFault}
use Rattle.rack.specs.declared.RackFault.TheVariants.{NoPlace}
use Rattle.rack.specs.Answers.{answer}
use Rattle.rack.specs.Meaning.{Meaning}
use Rattle.strokes.specs.Plan.{Plays, Placed}
use Rattle.later.specs.declared.Mark.{Mark}
use Rattle.pages.specs.declared.Page.{Page}
use Rattle.pages.specs.Pages.{pages_in, contents_in}
use Rattle.model.specs.declared.Refusal.TheVariants.{OutOfStrokes, BadLog, BadLength, LastRound, Rack}
use Rattle.model.specs.Store.{Warm, Applying, cold, applying, warm, fits, legal}
use Rattle.model.specs.Outcome.{refused, numbers, Does}
use Rattle.model.specs.Recovery.{when, untaken, committed}
use Rattle.model.specs.Rounds.{round_end, rest_page, rested, found_page, is_named, finish_fault, finishing}
use Rattle.model.proofs.Doing.{does_all, does_short}
use Rattle.model.proofs.Ending.{placed_end}
use Rattle.frame.proofs.Legal.{legal_facts}
use Rattle.frame.proofs.Fitting.{fits_facts}
use Rattle.drive_set.specs.Sets.{tally}
use Rattle.model.proofs.Passing.{passed}
use Rattle.recovery.proofs.Refusing.{none_at}

module _ (a : Applying) (ks : List Mark) (m : Meaning) where
  module _ (fine : Ok tt ≡ answer (finish_fault a (length ks) m)) (is-legal : legal a.shape ≡ true) where
    none : finish_fault a (length ks) m ≡ None
    none = none_at _ _ fine

    after_marks : when (not (eqb (length ks) (a.shape.pages * 240))) BadLength (when (leb 4294967295 a.round) LastRound (when (not (fits a.shape m)) (Rack NoPlace) None)) ≡ None
    after_marks = (passed (not (eqb (untaken a.shape a.taken) 0)) BadLog _ none).1

    pub long : length ks ≡ a.shape.pages * 240
    long = eqb-true (length ks) (a.shape.pages * 240) (not-false _ (passed _ BadLength _ after_marks).0)

    fitting : fits a.shape m ≡ true
    fitting = not-false _ (passed _ (Rack NoPlace) None (passed (leb 4294967295 a.round) LastRound _ (passed _ BadLength _ after_marks).1).1).0

    sized : (p : ℕ) → p < a.shape.pages → length (found_page a.shape.pages ks p) ≡ 240
    sized p h =
        let e : length (take 240 (drop (p * 240) ks)) ≡ 240 = simp (length-take, length-drop) (omega (arith, long)) in
        rw (lt-ltb p a.shape.pages h) (length-map (take 240 (drop (p * 240) ks)) (λ k. k.byte) ∙ e)

    placed : Placed (round_end a.shape a.round (is_named a) (found_page a.shape.pages ks)) m
    placed =
        let f = fits_facts a.shape m fitting in
        let l = legal_facts a.shape is-legal in
        let s = f.size 0 (omega arith) in
        placed_end a.shape a.round (is_named a) (found_page a.shape.pages ks) m f.count (omega (arith, l.room)) sized

    -- the numbers and the table that the code has
    module _ (pages logs : ℕ) (p : pages ≡ a.shape.pages) (l : logs ≡ a.shape.logs) (table : List Page) (filled : length ks ≡ pages * 240 → (q : ℕ) → pages_in pages table q ≡ rest_page (found_page pages ks q)) where
      -- the table holds the pages found
      found : (q : ℕ) → pages_in a.shape.pages table q ≡ rest_page (found_page a.shape.pages ks q)
      found = subst (λ (n : ℕ). (q : ℕ) → pages_in n table q ≡ rest_page (found_page n ks q)) p (filled (long ∙ ap (λ (k : ℕ). k * 240) (sym p)))

      contents : contents_in a.shape.pages table ≡ found_page a.shape.pages ks
      contents = λ i q. (found q i).committed

      -- the strokes as the code plans them
      abbrev Ended : ℕ → ℕ → Option RackFault → Meaning → Type 0
      Ended pages logs r n = Plays (round_end (record { pages = pages; logs = logs; blocks = λ d. 0 }) a.round (is_named a) (contents_in pages table)) m r n

      planned : (r : Option RackFault) (n : Meaning) → Ended pages logs r n → Plays (round_end a.shape a.round (is_named a) (found_page a.shape.pages ks)) m r n
      planned r n y = let z : Ended a.shape.pages a.shape.logs r n = rw (p, l) at y in subst (λ (c : ℕ → List ℕ). Plays (round_end a.shape a.round (is_named a) c) m r n) contents z

      pub does_end_short : (f : RackFault) (n : Meaning) → Ended pages logs (Some f) n → Does (finishing a ks m) (applying a ks) m (refused OutOfStrokes) cold n
      unfolding finishing
      does_end_short f n y = does_short (finishing a ks m) (applying a ks) m n f none placed (planned (Some f) n y)

      -- the store at the start of the next round
      abbrev Fresh : Warm → Type 0
      Fresh w = w ≡ record {
        shape = a.shape;
        round = a.round + 1;
        page = pages_in a.shape.pages table;
        filled = λ _. 0;
        turn = 1;
        begun = 0;
        commits = 0;
        sets = [];
        spoilt = false;
      }

      fresh_is : (w : Warm) → Fresh w → w ≡ rested a.shape (suc a.round) (found_page a.shape.pages ks)
      fresh_is w e = e ∙ (λ i. record {
        shape = a.shape;
        round = add-one a.round i;
        page = λ q. found q i;
        filled = λ _. 0;
        turn = 1;
        begun = 0;
        commits = 0;
        sets = [];
        spoilt = false;
      })

      pub does_finish : (n : Meaning) → Ended pages logs None n → (sets written : ℕ) → sets ≡ committed a.numbers → written ≡ tally (is_named a) a.shape.pages → (w : Warm) → Fresh w →
          Does (finishing a ks m) (applying a ks) m (numbers sets written) (warm w) n
      unfolding finishing
      does_finish n y sets written s t w e =
          rw (s, t, fresh_is w e) (does_all (finishing a ks m) (applying a ks) m n none placed (planned None n y))
