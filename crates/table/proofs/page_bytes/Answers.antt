use Rattle.std.proofs.Common.{rules, ◌≡◌, ℕ, ◌+◌, ◌*◌, get_or}
use Rattle.table.specs.Found.{mark_bytes}
use Rattle.block.proofs.FromFn.{from_fn_each}
use Rattle.table.proofs.Finding.{bytes_made}
use Rattle.table.proofs.page_bytes.Goals as goal

pub returns : goal.returns
returns c =
    let ks = c.args.marks.now in
    let p = c.args.page in
    let made = c.from_fn.ensures.items in
    bytes_made ks p c.from_fn.result made.long (λ k h.
    from_fn_each _ _ (λ (i byte : ℕ). byte ≡ get_or (mark_bytes ks) (p * 240 + i) 0) c.from_fn.result 240 (λ i byte q below called. search rules) made.each k 0 h)
