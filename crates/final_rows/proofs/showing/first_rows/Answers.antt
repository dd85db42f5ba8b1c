use Rattle.std.proofs.Common.{ap, length, map, take, ◌∙◌}
use Rattle.final_rows.proofs.ShownFacts.{all_out, stand_in_order}
use Rattle.final_rows.proofs.showing.first_rows.Goals as goal

pub returns : goal.returns
returns c =
    let o = c.args.output.now in
    let rows = c.args.rows in
    all_out o rows rows (stand_in_order o rows c.requires.none) c.limit_rows.new.rows
    c.narrow.new.self c.requires.all c.limit_rows.ensures
    (c.narrow.ensures ∙ ap (λ targets. map (take (length targets)) c.limit_rows.new.rows)
    c.as_slice.ensures)
