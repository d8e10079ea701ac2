-- What a memory rack keeps: its shape, and the caller's memory.
--
--   Kept              what a memory rack keeps: its shape, the caller's bytes and marks, the strokes left
--   fresh s xs ms n   what a rack keeps that is made of the shape s, the bytes xs, the marks ms and n strokes
--   fitting k         the memory has one mark and 512 bytes for each block of the shape
use Rattle.std.specs.Prelude.{ℕ, ◌*◌, Bool, ◌&&◌, List, length, ◌==◌}
use Rattle.rack.specs.declared.shape.Shape.{Shape}
use Rattle.rack.specs.Shapes.{total_in}

-- all blocks of all drives in order, drive 0 first: 512 bytes and one mark for each
pub record Kept : Type 0 where
  pub shape : Shape
  pub bytes : List ℕ
  pub marks : List ℕ
  pub left : ℕ

abbrev pub fresh : Shape → List ℕ → List ℕ → ℕ → Kept
fresh s xs ms n = record { shape = s; bytes = xs; marks = ms; left = n }

abbrev pub fitting : Kept → Bool
fitting k = length k.marks == total_in k.shape && length k.bytes == 512 * total_in k.shape
