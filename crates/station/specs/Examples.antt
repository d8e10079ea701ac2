-- Worked examples, of the definitions that the contracts use.
--
--   WorkedExamples      all of them
--   pair o l            the pair of offset o and length l
--   one_byte s k b a    the change of byte 0 of page 0 from b to a, as step k of set s
--   recovers ns x vs    the byte that recovery keeps where the drive has x, set s has the commit number at place s of ns, and
--                       the changes vs stand on log drives 1, 2, …
use Rattle.std.specs.Prelude.{◌≡◌, ℕ, suc, List, [], ◌∷◌, ◌++◌, Some, None, slice_index_or}
use Rattle.block.specs.Bytes.{zeros}
use Rattle.block.specs.Commits.{commit_block}
use Rattle.change.specs.Pairs.{total_in}
use Rattle.change.specs.Changes.{Content, change_block}
use Rattle.change.specs.declared.runs.Pair.{Pair}
use Rattle.later.specs.declared.Mark.{Mark}
use Rattle.later.specs.Keeping.{kept_all}
use Rattle.later.specs.Stamps.{mark_upto}
use Rattle.model.specs.Logs.{change, offered}
use Rattle.model.specs.Recovery.{drive_mark}

abbrev pub pair : ℕ → ℕ → Pair
pair o l = record { offset = o; length = l }

-- 1 in four bytes
abbrev pub one : List ℕ
one = 0x01 ∷ 0x00 ∷ 0x00 ∷ 0x00 ∷ []

abbrev pub one_byte : ℕ → ℕ → ℕ → ℕ → Content
one_byte s k b a = record { page = 0; round = 1; set = s; step = k; pairs = pair 0 1 ∷ []; before = b ∷ []; after = a ∷ [] }

abbrev pub offers_for : List ℕ → ℕ → List Content → List (ℕ × Mark)
offers_for ns d [] = []
offers_for ns d (v ∷ vs) = offered ns 1 d 0 (Some (change v)) ++ offers_for ns (suc d) vs

abbrev pub recovers : List ℕ → ℕ → List Content → ℕ
recovers ns x vs = (slice_index_or (kept_all mark_upto (drive_mark x ∷ []) (offers_for ns 1 vs)) 0 (drive_mark 0)).byte

pub record WorkedExamples : Type 0 where
  -- pairs that can stand in a change, with the bytes they cover
  pub good_pairs :
      (total_in (pair 0 240 ∷ []) ≡ Some 240) ×
      (total_in (pair 239 1 ∷ []) ≡ Some 1) ×
      (total_in (pair 10 5 ∷ pair 15 1 ∷ []) ≡ Some 6)
  -- pairs that cannot: past the page's end, without a byte, or over one another
  pub bad_pairs :
      (total_in (pair 0 241 ∷ []) ≡ None) ×
      (total_in (pair 239 2 ∷ []) ≡ None) ×
      (total_in (pair 3 0 ∷ []) ≡ None) ×
      (total_in (pair 10 5 ∷ pair 14 1 ∷ []) ≡ None)
  -- round 1, set 1, step 1, page 1, the pair (4, 2), zeros to A1 A2
  pub the_change_block :
      change_block (record { page = 1; round = 1; set = 1; step = 1; pairs = pair 4 2 ∷ []; before = 0x00 ∷ 0x00 ∷ []; after = 0xA1 ∷ 0xA2 ∷ [] }) ≡
      (0x01 ∷ 0x01 ∷ 0x01 ∷ 0x00 ∷ []) ++ (one ++ (one ++ (one ++
      ((0x04 ∷ 0x00 ∷ 0x02 ∷ 0x00 ∷ []) ++ (zeros 12 ++ ((0x00 ∷ 0x00 ∷ 0xA1 ∷ 0xA2 ∷ []) ++ zeros 476))))))
  -- commit 1 of set 1 in round 1
  pub the_commit_block :
      commit_block (record { round = 1; set = 1; number = 1 }) ≡
      (0x02 ∷ 0x00 ∷ 0x00 ∷ 0x00 ∷ []) ++ (one ++ (one ++ (one ++ zeros 496)))
  -- the drive has 9; set 1, of commit number 2, makes 8 to 6, and set 2, of commit number 1, makes 5 to 8: 6, in either order
  pub later_commit :
      (recovers (0 ∷ 2 ∷ 1 ∷ []) 9 (one_byte 1 1 8 6 ∷ one_byte 2 1 5 8 ∷ []) ≡ 6) ×
      (recovers (0 ∷ 2 ∷ 1 ∷ []) 9 (one_byte 2 1 5 8 ∷ one_byte 1 1 8 6 ∷ []) ≡ 6)
  -- the drive has 7, and a set without a commit number makes 5 to 7: 5
  pub undone : recovers (0 ∷ 0 ∷ []) 7 (one_byte 1 1 5 7 ∷ []) ≡ 5
  -- one committed set makes 6 in its first step and 4 in its second: 4, in either order
  pub later_step :
      (recovers (0 ∷ 1 ∷ []) 0 (one_byte 1 1 0 6 ∷ one_byte 1 2 0 4 ∷ []) ≡ 4) ×
      (recovers (0 ∷ 1 ∷ []) 0 (one_byte 1 2 0 4 ∷ one_byte 1 1 0 6 ∷ []) ≡ 4)
