use Rattle.std.proofs.Common.{◌≡◌, [], length, map, refl, subst, sym, ap, ◌∙◌}
use Rattle.std.proofs.lemmas.List.Elements.{All-map}
use Rattle.bq.specs.List.{headers, shown_row}
use Rattle.posting_table.specs.Decimals.{decimals_of}
use Rattle.table_printer.specs.Printing.{IsPrinted}
use Rattle.table_printer.specs.Table.{table_text}
use Rattle.bq.proofs.commands.list.printed.Goals as goal

pub new-requires-clause-even : goal.new-requires-clause-even
new-requires-clause-even c =
    All-map (λ row. length row ≡ 4) shown_row c.args.ledger.now.rows (λ k d within. refl)

-- the display decimals stay those of the ledger
pub returns : goal.returns
returns c =
    let rows = c.args.ledger.now.rows in
    let decimals = c.args.ledger.now.decimals in
    let all = map shown_row rows in
    let left = ap (λ l. l.decimals) c.take_parts.ensures.left in
    let second = c.display-2.ensures ∙ left in
    let third = c.display-3.ensures ∙ left in
    let begun =
    subst (λ d. IsPrinted headers all [] (decimals_of d) c.in_ok-printer.printer)
    (c.display.ensures ∙ sym second) c.in_ok-printer.ensures.printed in
    let whole =
    subst (λ d. IsPrinted headers all all (decimals_of d) c.print_parts.new.printer)
    (second ∙ sym third)
    (subst (λ rs. IsPrinted headers all (map shown_row rs) (decimals_of c.display-2.result.now)
    c.print_parts.new.printer) c.in_ok-parts.ensures.taken (c.in_ok-print_parts.ensures all [] begun)) in
    c.in_ok-text.ensures headers all whole
    ∙ ap (λ d. table_text headers all (decimals_of d)) third
