use Rattle.std.proofs.Common.{rules, ◌≡◌, ◌*◌, length, ap, ◌∙◌, add-one}
use Rattle.model.specs.Logs.{value_at}
use Rattle.page_drive.proofs.Pasting.{page_put, page_whole}
use Rattle.page_drive.proofs.read_page.Goals as goal

pub returns-in-Some : goal.returns-in-Some
returns-in-Some g c =
    let m = g.R.Rack.meaning c.args.rack.now in
    let long : length c.page_content.result.now ≡ 240 = search rules in
    let value = c.in-Some.ensures ∙ ap (value_at m 0) (add-one c.args.page) in
    record {
      after = c.fill.ensures ∙ page_put c.args.marks.now (240 * c.args.page) _ c.in-Some.block _ value c.page_content.ensures;
      whole = λ _. page_whole _ c.in-Some.block _ value c.page_content.ensures long;
    }
