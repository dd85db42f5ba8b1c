use Rattle.std.proofs.Common.{◌≡◌, ◌++◌, map, OnOk, subst, ◌∙◌}
use Rattle.posting_table.specs.Decimals.{decimals_of}
use Rattle.table_printer.specs.Heading.{width_of}
use Rattle.table_printer.specs.Line.{IsKept}
use Rattle.table_printer.proofs.FrontFacts.{one_front}
use Rattle.table_printer.proofs.fronts.push_front.Goals as goal

pub returns-then-alike-count-clause-text : goal.returns-then-alike-count-clause-text
returns-then-alike-count-clause-text g c =
    let d = decimals_of c.args.display.now in
    let ws = map width_of c.args.headings.now in
    let values = g.T.Rows.values in
    let front = c.in-Some.front in
    let kept = subst (IsKept values d ws c.args.count) c.in-Some.is c.requires.kept in
    subst (λ t. OnOk c.push.result (c.push.new.out.items ≡ c.args.out.now.items ++ t))
    (kept.1
    ∙ one_front d ws c.args.count c.alike.result (values c.args.row.now) (values front.row)
    c.if-alike-count.true (c.alike.ensures d))
    c.push.ensures
