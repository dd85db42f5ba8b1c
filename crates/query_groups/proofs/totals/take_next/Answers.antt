use Rattle.std.proofs.Common.{ap, sym, ◌∙◌}
use Rattle.plain_machine.specs.Gathering.{with_value}
use Rattle.query_groups.proofs.TakingFacts.{taken_is, there}
use Rattle.query_groups.proofs.totals.take_next.Goals as goal

pub returns : goal.returns
returns c =
    let a = c.args.aggregate in
    let total = c.args.total.now in
    let inputs = c.args.inputs.now in
    let rows = sym c.counts_rows.ensures ∙ c.if-counts_rows.false in
    taken_is a total c.take-2.new.total inputs c.args.at c.index-inputs-at.result rows
    (there a total inputs c.args.at c.requires rows)
    (ap (with_value a total) (sym c.index-inputs-at.is) ∙ c.in_ok-take-2.ensures)
