use Rattle.std.proofs.Common.{◌≡◌, codes, sym, ap, ◌∙◌, rules}
use Rattle.std.specs.Result.{result_ok}
use Rattle.script.specs.Commands.{block, tear, stop, forms}
use Rattle.script.specs.Reader.{ahead}
use Rattle.script.proofs.Names.{no_form, no_text}
use Rattle.script.proofs.Readings.{number_says, place_says}
use Rattle.script.proofs.Texts.{text_is, not_text}
use Rattle.script.proofs.named.Goals as goal
use Rattle.script.proofs.named.Goals.{in_default-via-in-Ok+in_default, in_default-via-in_default}

pub returns-in-Ok-block : goal.returns-in-Ok-block
returns-in-Ok-block c =
    let name : c.args.name.now ≡ codes "block" = sym c.in-Ok-block.ensures.cases.0 ∙ c.in-Ok-block.is-block in
    rw name (place_says (λ p. block p.0 p.1) (ahead c.args.words) _ _ _ c.only_place.ensures c.map-in-Ok-block.ensures.cases (λ x k p. search rules))

pub returns-in-Ok-tear : goal.returns-in-Ok-tear
returns-in-Ok-tear c =
    let name : c.args.name.now ≡ codes "tear" = sym c.in-Ok-tear.ensures.cases.0 ∙ c.in-Ok-tear.is-tear in
    rw name (place_says (λ p. tear p.0 p.1) (ahead c.args.words) _ _ _ c.only_place-in-Ok-tear.ensures c.map-in-Ok-tear.ensures.cases (λ x k p. search rules))

pub returns-in-Ok-stop : goal.returns-in-Ok-stop
returns-in-Ok-stop c =
    let name : c.args.name.now ≡ codes "stop" = sym c.in-Ok-stop.ensures.cases.0 ∙ c.in-Ok-stop.is-stop in
    rw name (number_says (λ n. stop n) (ahead c.args.words) _ _ _ c.only_number-in-Ok-stop.ensures c.map-in-Ok-stop.ensures.cases (λ x k p. search rules))

pub returns-in_default : goal.returns-in_default
returns-in_default c = elim c.in_default.branch [
  | in_default-via-in-Ok+in_default w ↦
      let text = text_is _ c.args.name.now _ w.in_default.field-0 c.from_utf8.ensures.cases (ap result_ok (sym w.in_default.is)) in
      no_form forms c.args.name.now (ahead c.args.words) (rw (← text) (search rules))
  | in_default-via-in_default w ↦ no_text c.args.name.now (ahead c.args.words) (not_text _ c.args.name.now _ c.from_utf8.ensures.cases (ap result_ok (sym w.in_default.is)))
]
