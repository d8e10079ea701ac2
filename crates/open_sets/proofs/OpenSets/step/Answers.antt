use Rattle.std.proofs.Common.{ℕ, ◌≤◌, ◌⊎◌, take, sym, ◌∙◌, subst, arith}
use Rattle.open_sets.proofs.Numbers.{at_place, no_place}
use Rattle.open_sets.proofs.OpenSets.step.Goals as goal

pub returns-in-Some : goal.returns-in-Some
returns-in-Some c =
    let o = c.args.self.now in
    let found = rw (c.from.ensures, c.as_slice.ensures.front) at (sym c.place.ensures ∙ c.in-Some.is) in
    let place = at_place o.sets o.count (omega arith) c.args.number c.in-Some.i found in
    record {
      steps = λ l k. place.steps c.args.drive _ (c.take_step.ensures.steps l (omega (arith, k, place.step)));
      rests = λ h. place.rests _ (c.take_step.ensures.rests (subst (λ (k : ℕ). (16 ≤ c.args.drive) ⊎ (4294967295 ≤ k)) place.step h));
    }

pub returns-in_default-clause-steps : goal.returns-in_default-clause-steps
returns-in_default-clause-steps c _ _ =
    let o = c.args.self.now in
    let none = rw (c.from.ensures, c.as_slice.ensures.front) at (sym c.place.ensures ∙ c.in_default.is) in
    no_place (take o.count o.sets) c.args.number c.args.drive none
