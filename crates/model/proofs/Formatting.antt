-- What stands after all strokes of a format.
use Rattle.std.proofs.Common.{◌≡◌, ℕ, zero, suc, ◌+◌, ◌<◌, ◌≤◌, true, List, [], ◌∷◌, ◌++◌, length, refl, ◌∙◌, ⊎_elim, arith}
use Rattle.std.proofs.lemmas.List.{length-append}
use Rattle.std.proofs.lemmas.Bool.{eq-eqb, cases_eq, lt-ltb}
use Rattle.std.proofs.lemmas.Bool.Decides.{nat_tests}
use Rattle.rack.specs.Meaning.{Block, Meaning, Alike, Stands, newest}
use Rattle.strokes.specs.declared.Stroke.{Stroke}
use Rattle.strokes.specs.declared.Stroke.TheVariants.{Write, Flush}
use Rattle.strokes.specs.Plan.{Strokes, Placed, placed, run}
use Rattle.strokes.proofs.Exactly.{placed_append}
use Rattle.strokes.proofs.Composing.{strokes_left}
use Rattle.strokes.proofs.Runs.{placed_run, length_run}
use Rattle.strokes.proofs.Showing.{plans_show}
use Rattle.strokes.proofs.Standing.{strokes_split, alike_strokes, Elsewhere, elsewhere_append, flush_stands, strokes_stand, run_off_drive, shows_run}
use Rattle.block.specs.Bytes.{zeros}
use Rattle.block.specs.Pages.{page_block}
use Rattle.block.proofs.Zeros.{length_zeros}
use Rattle.block.proofs.HeadLaws.{length_head_block}
use Rattle.block.proofs.PageLaws.{length_page_block}
use Rattle.model.specs.Store.{Shape, shape_of, legal}
use Rattle.model.specs.Format.{head_at, headed, wipe, wipes, blank_pages, format_plan, wipe_strokes, Formatted}

-- a run of writes to a drive, flushed, stands in each of its blocks
run_stands : (d b₀ n : ℕ) (v : Block) (m k : Meaning) (rest : List Stroke) → d < m.count → b₀ + n ≤ m.size d → Strokes (run d b₀ n v ++ (Flush d ∷ rest)) m k →
    (b : ℕ) → b₀ ≤ b → b < b₀ + n → Elsewhere rest d b → Stands k d b v
unfolding Strokes
run_stands d b₀ n v m k rest h g y b p q away =
    let w = strokes_split (run d b₀ n v) (Flush d ∷ rest) m k y in
    let j = w.0 in
    let a = alike_strokes (run d b₀ n v) m j w.1 in
    let e = a.count in
    let f = a.size d in
    let in-m : b < m.size d = omega arith in
    let in-j : b < j.size d = omega arith in
    let d-j : d < j.count = omega arith in
    let read = plans_show (run d b₀ n v) m j d b h in-m w.1 ∙ shows_run d b₀ n v b (newest (m.slot d b)) p q in
    let i = w.2.0 in
    let stood = flush_stands j i d b v d-j in-j w.2.1 read in
    let c : i.count ≡ j.count = w.2.1.alike.count in
    let s : i.size d ≡ j.size d = w.2.1.alike.size d in
    strokes_stand rest i k d b v (omega arith) (omega arith) away w.2.2 stood

-- a list of wipes writes no other drive
wipes_off_drive : (z : ℕ → ℕ) (d n e b : ℕ) → e < d → Elsewhere (wipes z d n) e b
unfolding wipes Elsewhere
wipes_off_drive z d zero e b h = tt
wipes_off_drive z d (suc n) e b h =
    elsewhere_append (wipe z d) (wipes z (suc d) n) e b
    (elsewhere_append (run d 0 (z d) (zeros 512)) (Flush d ∷ []) e b (run_off_drive d 0 (z d) (zeros 512) e b (λ x. omega arith)) tt)
    (wipes_off_drive z (suc d) n e b (omega arith))

-- the rack m has the drives of the shape z
pub record Has (z : Shape) (m : Meaning) : Type 0 where
  pub logs : z.logs < m.count
  pub blocks : (d : ℕ) → d < m.count → m.size d ≡ z.blocks d

has_alike : (z : Shape) (m k : Meaning) → Alike m k → Has z m → Has z k
has_alike z m k a h = record { logs = rw a.count h.logs; blocks = λ d p. a.size d ∙ h.blocks d (rw a.count at p) }

-- the first of the wipes
wipe_stands : (z : Shape) (d n : ℕ) (m j k : Meaning) → Has z m → d ≤ z.logs → Strokes (wipe z.blocks d) m j → Strokes (wipes z.blocks (suc d) n) j k →
    (b : ℕ) → b < z.blocks d → Stands k d b (zeros 512)
unfolding Elsewhere
wipe_stands z d n m j k h g x y b r =
    let l = h.logs in
    let t = h.blocks d (omega arith) in
    let in-drives : d < m.count = omega arith in
    let stood = run_stands d 0 (z.blocks d) (zeros 512) m j [] in-drives (omega arith) x b (omega arith) (omega arith) tt in
    let a = alike_strokes (wipe z.blocks d) m j x in
    let e = a.count in
    let f = a.size d in
    strokes_stand (wipes z.blocks (suc d) n) j k d b (zeros 512) (omega arith) (omega arith) (wipes_off_drive z.blocks (suc d) n d b (omega arith)) y stood

wipes_stand : (z : Shape) (d n : ℕ) (m k : Meaning) → Has z m → d + n ≤ suc z.logs → Strokes (wipes z.blocks d n) m k →
    (e b : ℕ) → d ≤ e → e < d + n → b < z.blocks e → Stands k e b (zeros 512)
unfolding wipes
wipes_stand z d zero m k h g y e b p q r = absurd (omega arith)
wipes_stand z d (suc n) m k h g y e b p q r =
    let w = strokes_split (wipe z.blocks d) (wipes z.blocks (suc d) n) m k y in
    let j = w.0 in
    let h₁ = has_alike z m j (alike_strokes (wipe z.blocks d) m j w.1) h in
    ⊎_elim
    (λ (x : e ≡ d). rw x (wipe_stands z d n m j k h (omega arith) w.1 w.2 b (rw x at r)))
    (λ (x : e ≡ d → ⊥). wipes_stand z (suc d) n j k h₁ (omega arith) w.2 e b (omega arith) (omega arith) r)
    (cases_eq e d)

pub length_wipes : (blocks : ℕ → ℕ) (d n : ℕ) → length (wipes blocks d n) ≡ wipe_strokes blocks d n
unfolding wipes
length_wipes blocks d zero = refl
length_wipes blocks d (suc n) =
    let t = length-append (run d 0 (blocks d) (zeros 512)) (Flush d ∷ []) in
    let r = length_run d 0 (blocks d) (zeros 512) in
    let i = length_wipes blocks (suc d) n in
    length-append (wipe blocks d) (wipes blocks (suc d) n) ∙ omega arith

pub length_format : (z : Shape) → length (format_plan z) ≡ 5 + z.pages + wipe_strokes z.blocks 1 z.logs
length_format z =
    let r = length_run 0 1 z.pages (page_block (zeros 240)) in
    let i = length_wipes z.blocks 1 z.logs in
    let t = length-append (run 0 1 z.pages (page_block (zeros 240))) (Flush 0 ∷ []) in
    let u = length-append (blank_pages z.pages) (headed (head_at z 1)) in
    let v = length-append (wipes z.blocks 1 z.logs) (blank_pages z.pages ++ headed (head_at z 1)) in
    omega arith

-- the strokes of a format in their four parts, with the racks between them
pub record Parts (z : Shape) (m n : Meaning) : Type 0 where
  pub zeroed : Meaning
  pub wiped : Meaning
  pub blanked : Meaning
  pub zeroing : Strokes (headed (zeros 512)) m zeroed
  pub wiping : Strokes (wipes z.blocks 1 z.logs) zeroed wiped
  pub blanking : Strokes (blank_pages z.pages) wiped blanked
  pub heading : Strokes (headed (head_at z 1)) blanked n

format_parts : (z : Shape) (m n : Meaning) → Strokes (format_plan z) m n → Parts z m n
format_parts z m n y =
    let a = strokes_split (headed (zeros 512)) (wipes z.blocks 1 z.logs ++ (blank_pages z.pages ++ headed (head_at z 1))) m n y in
    let b = strokes_split (wipes z.blocks 1 z.logs) (blank_pages z.pages ++ headed (head_at z 1)) a.0 n a.2 in
    let c = strokes_split (blank_pages z.pages) (headed (head_at z 1)) b.0 n b.2 in
    record { zeroed = a.0; wiped = b.0; blanked = c.0; zeroing = a.1; wiping = b.1; blanking = c.1; heading = c.2 }

module _ (z : Shape) (m n : Meaning) (has : Has z m) (room : z.pages < z.blocks 0) (p : Parts z m n) where
  has_zeroed : Has z p.zeroed
  has_zeroed = has_alike z m p.zeroed (alike_strokes _ m p.zeroed p.zeroing) has

  has_wiped : Has z p.wiped
  has_wiped = has_alike z p.zeroed p.wiped (alike_strokes _ p.zeroed p.wiped p.wiping) has_zeroed

  has_blanked : Has z p.blanked
  has_blanked = has_alike z p.wiped p.blanked (alike_strokes _ p.wiped p.blanked p.blanking) has_wiped

  formatted_log : (d b : ℕ) → 1 ≤ d → d ≤ z.logs → b < z.blocks d → Stands n d b (zeros 512)
  unfolding Elsewhere
  formatted_log d b low high in-log =
      let l₁ = has_wiped.logs in
      let t₁ = has_wiped.blocks d (omega arith) in
      let l₂ = has_blanked.logs in
      let t₂ = has_blanked.blocks d (omega arith) in
      let away = elsewhere_append (run 0 1 z.pages (page_block (zeros 240))) (Flush 0 ∷ []) d b (run_off_drive 0 1 z.pages (page_block (zeros 240)) d b (λ e. omega arith)) tt in
      let stood = wipes_stand z 1 z.logs p.zeroed p.wiped has_zeroed (omega arith) p.wiping d b low (omega arith) in-log in
      let stays = strokes_stand (blank_pages z.pages) p.wiped p.blanked d b (zeros 512) (omega arith) (omega arith) away p.blanking stood in
      strokes_stand (headed (head_at z 1)) p.blanked n d b (zeros 512) (omega arith) (omega arith) ((λ e k. omega arith), tt) p.heading stays

  formatted_page : (k : ℕ) → k < z.pages → Stands n 0 (suc k) (page_block (zeros 240))
  unfolding Elsewhere
  formatted_page k h =
      let l₁ = has_wiped.logs in
      let t₁ = has_wiped.blocks 0 (omega arith) in
      let l₂ = has_blanked.logs in
      let t₂ = has_blanked.blocks 0 (omega arith) in
      let stood = run_stands 0 1 z.pages (page_block (zeros 240)) p.wiped p.blanked [] (omega arith) (omega arith) p.blanking (suc k) (omega arith) (omega arith) tt in
      strokes_stand (headed (head_at z 1)) p.blanked n 0 (suc k) (page_block (zeros 240)) (omega arith) (omega arith) ((λ e x. omega arith), tt) p.heading stood

  formatted_head : Stands n 0 0 (head_at z 1)
  unfolding Elsewhere run
  formatted_head =
      let l = has_blanked.logs in
      let t = has_blanked.blocks 0 (omega arith) in
      run_stands 0 0 1 (head_at z 1) p.blanked n [] (omega arith) (omega arith) p.heading 0 (omega arith) (omega arith) tt

pub formatted : (z : Shape) (m n : Meaning) → Has z m → z.pages < z.blocks 0 → length (format_plan z) ≤ m.left → Strokes (format_plan z) m n → Formatted z m n
formatted z m n has room lasts y =
    let p = format_parts z m n y in
    record {
      head = formatted_head z m n has room p;
      page = formatted_page z m n has room p;
      log = formatted_log z m n has room p;
      strokes = let e = length_format z in let l = strokes_left (format_plan z) m n y in omega arith;
    }

-- every stroke of a format has its place
pub placed_write : (d b : ℕ) (v : Block) (m : Meaning) → length v ≡ 512 → d < m.count → b < m.size d → placed (Write d b v) m ≡ true
placed_write d b v m l h g = rw (eq-eqb (length v) 512 l, lt-ltb d m.count h, lt-ltb b (m.size d) g)

pub placed_headed : (v : Block) (m : Meaning) → length v ≡ 512 → 0 < m.count → 0 < m.size 0 → Placed (headed v) m
unfolding Placed
placed_headed v m l h g = (placed_write 0 0 v m l h g, (lt-ltb 0 m.count h, tt))

placed_wipes : (z : Shape) (d n : ℕ) (m : Meaning) → Has z m → d + n ≤ suc z.logs → Placed (wipes z.blocks d n) m
unfolding wipes Placed
placed_wipes z d zero m h g = tt
placed_wipes z d (suc n) m h g =
    let l = h.logs in
    let t = h.blocks d (omega arith) in
    placed_append (wipe z.blocks d) (wipes z.blocks (suc d) n) m
    (placed_append (run d 0 (z.blocks d) (zeros 512)) (Flush d ∷ []) m (placed_run d 0 (z.blocks d) (zeros 512) m (length_zeros 512) (omega arith) (omega arith)) (lt-ltb d m.count (omega arith), tt))
    (placed_wipes z (suc d) n m h (omega arith))

pub placed_format : (z : Shape) (m : Meaning) → Has z m → z.pages < z.blocks 0 → Placed (format_plan z) m
unfolding Placed
placed_format z m h room =
    let l = h.logs in
    let t = h.blocks 0 (omega arith) in
    let first = placed_headed (zeros 512) m (length_zeros 512) (omega arith) (omega arith) in
    let last = placed_headed (head_at z 1) m (length_head_block _) (omega arith) (omega arith) in
    let pages = placed_run 0 1 z.pages (page_block (zeros 240)) m (length_page_block (zeros 240) (length_zeros 240)) (omega arith) (omega arith) in
    let blank = placed_append (run 0 1 z.pages (page_block (zeros 240))) (Flush 0 ∷ []) m pages (lt-ltb 0 m.count (omega arith), tt) in
    placed_append (headed (zeros 512)) (wipes z.blocks 1 z.logs ++ (blank_pages z.pages ++ headed (head_at z 1))) m first
    (placed_append (wipes z.blocks 1 z.logs) (blank_pages z.pages ++ headed (head_at z 1)) m (placed_wipes z 1 z.logs m h (omega arith))
    (placed_append (blank_pages z.pages) (headed (head_at z 1)) m blank last))

-- a legal shape is on its rack, with room for its pages
pub legal_has : (pages : ℕ) (m : Meaning) → legal (shape_of pages m) ≡ true → Has (shape_of pages m) m × (pages < (shape_of pages m).blocks 0) × (pages ≤ 64)
legal_has pages m e = (
  record { logs = grind (arith, nat_tests); blocks = λ x p. rw (lt-ltb x m.count p) },
  grind (arith, nat_tests),
  grind (arith, nat_tests),
)
