use Rattle.std.proofs.Common.{◌≡◌, [], All, length, subst, sym}
use Rattle.posting_table.specs.Decimals.{decimals_of}
use Rattle.table_printer.specs.Growing.{grown}
use Rattle.table_printer.proofs.PrintingFacts.{may_be}
use Rattle.table_printer.proofs.table.print.Goals as goal

pub push-requires : goal.push-requires
push-requires g c =
    let names = g.T.Rows.names c.args.table.now in
    let rows = g.T.Rows.rows c.args.table.now in
    let p = c.in_ok-printer.printer in record {
      even = subst (λ n. All (λ row. length row ≡ n) rows) (sym c.in_ok-printer.ensures.columns)
          c.requires;
      left = may_be names rows [] (decimals_of c.args.display.now) p.own p.headings.items
          (grown p.lines) c.in_ok-printer.ensures.printed;
    }

pub returns : goal.returns
returns g c =
    let names = g.T.Rows.names c.args.table.now in
    let rows = g.T.Rows.rows c.args.table.now in
    c.in_ok-text.ensures names rows
    (c.in_ok-push.ensures.printed names rows [] c.in_ok-printer.ensures.printed)
