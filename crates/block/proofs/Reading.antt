-- When bytes read as a value, and when as nothing: for any kind of block.
use Rattle.std.proofs.Common.{◌≡◌, ℕ, List, length, Some, None, sym, ap, ◌∙◌, subst}
use Rattle.block.specs.Bytes.{ReadsBack}
use Rattle.block.proofs.Numbers.{AllBytes}

-- A kind of block. `of` takes the values from where they stand in a block, whatever stands there, and `Shaped` says
-- that the rest of a block is as it is in every block of the kind.
pub record Layout {C : Type 0} (Ok : C → Type 0) (block : C → List ℕ) (of : List ℕ → C) (Shaped : List ℕ → Type 0) : Type 0 where
  pub long : (c : C) → Ok c → length (block c) ≡ 512
  -- reading what was written
  pub back : (c : C) → Ok c → of (block c) ≡ c
  pub shaped : (c : C) → Ok c → Shaped (block c)
  -- writing what was read
  pub forth : (b : List ℕ) → length b ≡ 512 → AllBytes b → Shaped b → Ok (of b) → block (of b) ≡ b

module _ {C : Type 0} {Ok : C → Type 0} {block : C → List ℕ} {of : List ℕ → C} {Shaped : List ℕ → Type 0} (kind : Layout Ok block of Shaped) (b : List ℕ) where
  -- the bytes are the block of no value
  none : ((c : C) → Ok c → block c ≡ b → ⊥) → ReadsBack Ok block b None
  none not = λ c. ((λ h. cc), (λ h. absurd (not c h.0 h.1)))

  -- the only value whose block the bytes can be
  only : (c : C) → Ok c → block c ≡ b → of b ≡ c
  only c ok e = ap of (sym e) ∙ kind.back c ok

  -- the three reasons to read nothing
  pub none_by_length : (length b ≡ 512 → ⊥) → ReadsBack Ok block b None
  none_by_length not = none (λ c ok e. not (ap length (sym e) ∙ kind.long c ok))

  pub none_by_shape : (Shaped b → ⊥) → ReadsBack Ok block b None
  none_by_shape not = none (λ c ok e. not (subst Shaped e (kind.shaped c ok)))

  pub none_by_value : (Ok (of b) → ⊥) → ReadsBack Ok block b None
  none_by_value not = none (λ c ok e. not (subst Ok (sym (only c ok e)) ok))

  -- and with none of them the bytes are a block
  pub some_value : (m : C) → m ≡ of b → length b ≡ 512 → AllBytes b → Shaped b → Ok (of b) → ReadsBack Ok block b (Some m)
  some_value m e long small shaped ok = λ c. (
    (λ h. let k : of b ≡ c = sym e ∙ (cc) in let P : C → Type 0 = λ x. Ok x × (block x ≡ b) in subst P k (ok, kind.forth b long small shaped ok)),
    (λ h. ap Some (e ∙ only c h.0 h.1)),
  )
