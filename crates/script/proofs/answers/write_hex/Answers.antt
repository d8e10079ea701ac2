use Rattle.std.proofs.Common.{refl, arith}
use Rattle.script.proofs.Hex.{byte_put}
use Rattle.script.proofs.answers.write_hex.Goals as goal

pub loop-b-preserved : goal.loop-b-preserved
loop-b-preserved g c plain =
    byte_put g.W.Write.write_str_gives _ _ _ _ _ _ _ _ c.loop-b-test.true (omega (arith, c.type_inv.bytes c.loop-b.b-index)) c.digit.ensures c.digit-in-loop-b.ensures
    (c.loop-b.invariant plain) (λ p. c.in_ok-write_char.ensures.writes p refl) (λ p. c.in_ok-write_char-2.ensures.writes p refl)
