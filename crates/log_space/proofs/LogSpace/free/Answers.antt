use Rattle.std.proofs.Common.{◌≡◌, ℕ, ◌+◌, ◌-◌, ap, ◌∙◌, ap₂, add-one, arith}
use Rattle.model.specs.Room.{sum_logs, free_in}
use Rattle.frame.specs.Frames.{shape_in}
use Rattle.log_space.specs.Views.{used_in}
use Rattle.log_space.proofs.LogSpace.free.Goals as goal

-- one log more
sum_more : (f : ℕ → ℕ) (n x y : ℕ) → x ≡ sum_logs f n → y ≡ f (n + 1) → x + y ≡ sum_logs f (n + 1)
sum_more f n x y p q = rw add-one (ap₂ (λ (a b : ℕ). a + b) p (q ∙ ap f (add-one n)))

pub loop-log-preserved : goal.loop-log-preserved
loop-log-preserved c =
    let z = shape_in c.args.frame.now in
    (sum_more (λ d. z.blocks d - used_in c.args.self.now d) c.loop-log.log c.loop-log.free c.from-free.result c.loop-log.invariant.0 (c.from-free.ensures ∙ c.free_on.ensures), omega (arith, c.loop-log.invariant.1))

pub returns : goal.returns
unfolding free_in
returns c =
    let z = shape_in c.args.frame.now in
    c.loop-log.invariant.0 ∙ ap (sum_logs (λ d. z.blocks d - used_in c.args.self.now d)) (omega arith)
