-- The block of a page.
use Rattle.std.proofs.Common.{◌≡◌, ℕ, List, length, arith}
use Rattle.std.proofs.lemmas.List.{length-append}
use Rattle.block.specs.Pages.{page_block}
use Rattle.block.proofs.Zeros.{length_zeros}

pub length_page_block : (c : List ℕ) → length c ≡ 240 → length (page_block c) ≡ 512
length_page_block c h = simp (length-append, length_zeros) (omega arith)
