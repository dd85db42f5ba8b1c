use Rattle.std.proofs.Common.{◌∙◌, arith, sym, ap}
use Rattle.std.specs.List.{slice_get}
use Rattle.posting_table.specs.Decimals.{decimals_of}
use Rattle.table_printer.specs.Growing.{grown}
use Rattle.table_printer.proofs.PrintingFacts.{begun_open}
use Rattle.table_printer.proofs.printer.Printer.left_open.Goals as goal

pub returns : goal.returns
returns g c =
    let names = g.T.Rows.names c.args.table.now in
    let hs = c.in_ok-headings.headings in
    record {
      printed = begun_open names (g.T.Rows.rows c.args.table.now) (decimals_of c.args.display.now)
          hs.items c.args.last (grown c.in_ok-lines.lines) c.in_ok-own.own c.requires.last
          (sym hs.ok.0 ∙ c.in_ok-headings.ensures.len) c.requires.left c.in_ok-headings.ensures.headers
          c.in_ok-headings.ensures.widths
          (c.in_ok-own.ensures.name ∙ ap (λ ns. slice_get ns c.args.last) c.requires.names)
          c.in_ok-own.ensures.bare c.in_ok-lines.ensures;
      columns = omega (arith, c.requires.last, hs.ok.0, c.in_ok-headings.ensures.len);
    }
