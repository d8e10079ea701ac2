-- What can be read after the calls that change a block, where the block was found at the place i.
use Rattle.std.proofs.Common.{◌≡◌, ℕ, ◌+◌, ◌≤◌, List, length, Some, None, Ok, refl, ap, subst, arith}
use Rattle.std.proofs.lemmas.List.{length-take}
use Rattle.std.specs.Option.{ok_or}
use Rattle.rack.specs.declared.RackFault.TheVariants.{NoPlace}
use Rattle.rack.specs.Meaning.{Block, Early, written}
use Rattle.memory_rack.specs.Memory.{Kept, block_at, placed, shown, memory_of, over, put, cleared, struck, ReadsOnly}
use Rattle.memory_rack.proofs.Blocks.{over_all}
use Rattle.memory_rack.proofs.Places.{Lies, found_lies}
use Rattle.memory_rack.proofs.Changes.{touches_reads, put_touches, cleared_touches, reads_early}

module _ (k : Kept) (d b i : ℕ) (found : Ok i ≡ ok_or (placed k d b) NoPlace) where
  lies : Lies k d b i
  lies = found_lies k d b i found

  pub tear_reads : (j : Kept) → j ≡ cleared k i → ReadsOnly (shown k) (shown j) d b None
  tear_reads j e = rw e (touches_reads k (cleared k i) d b i None lies (cleared_touches k d b i lies))

  pub poke_reads : (p : ℕ) (v : List ℕ) → p + length v ≤ 512 → (j : Kept) → j ≡ put k i p v → ReadsOnly (shown k) (shown j) d b (Some (over (memory_of k d b) p v))
  poke_reads p v h j e =
      rw e (subst (λ w. ReadsOnly (shown k) (shown (put k i p v)) d b (Some (over w p v))) (ap (block_at k.bytes) lies.place)
      (touches_reads k (put k i p v) d b i _ lies (put_touches k d b i lies p v h)))

  -- what is read does not hang on the strokes
  pub write_early : (v : Block) → length v ≡ 512 → (j : Kept) → j ≡ struck (put k i 0 v) → Early (written (shown k) d b v) (shown j)
  write_early v full j e =
      let whole : over (memory_of k d b) 0 v ≡ v = over_all (memory_of k d b) v (simp length-take (omega arith)) in
      let r = subst (λ w. ReadsOnly (shown k) (shown (put k i 0 v)) d b (Some w)) whole (poke_reads 0 v (omega arith) (put k i 0 v) refl) in
      rw e (reads_early k (struck (put k i 0 v)) d b v (record { alike = record { count = r.alike.count; size = r.alike.size }; here = r.here; others = r.others }) refl)
