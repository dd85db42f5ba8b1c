use Rattle.std.proofs.Common.{◌++◌, ◌∙◌, arith, map, ap}
use Rattle.pieces.specs.Pieces.{pieced}
use Rattle.pieces.proofs.PieceFacts.{at_end}
use Rattle.posting_table.specs.Decimals.{decimals_of}
use Rattle.table_printer.specs.Heading.{heading_text, width_of}
use Rattle.table_printer.specs.Printing.{head_of}
use Rattle.table_printer.proofs.PrintingFacts.{begun}
use Rattle.table_printer.proofs.printer.Printer.measured.Goals as goal

pub returns : goal.returns
returns g c =
    let names = g.T.Rows.names c.args.table.now in
    let hs = c.in_ok-headings.headings in
    let lines = c.in_ok-lines.lines in
    record {
      printed = begun names (g.T.Rows.rows c.args.table.now) (decimals_of c.args.display.now)
          hs.items c.columns.result (pieced lines.full.items c.push_head.new.out.items)
          c.columns.ensures c.in_ok-headings.ensures.headers c.in_ok-headings.ensures.widths
          (ap (pieced lines.full.items) c.in_ok-push_head.ensures
          ∙ at_end lines.full.items lines.last.items _
          ∙ (λ i. c.in_ok-lines.ensures i
          ++ head_of (map width_of (c.deref-2.ensures.value i)) (map heading_text (c.deref-2.ensures.value i))));
      columns = omega (arith, c.columns.ensures, hs.ok.0, c.in_ok-headings.ensures.len);
    }
