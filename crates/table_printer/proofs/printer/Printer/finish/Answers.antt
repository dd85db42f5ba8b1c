use Rattle.std.proofs.Common.{◌++◌, subst, ap, ◌∙◌}
use Rattle.posting_table.specs.Decimals.{decimals_of}
use Rattle.table_printer.specs.Growing.{grown}
use Rattle.table_printer.specs.Printing.{Stands}
use Rattle.table_printer.proofs.PrintingFacts.{whole_open}
use Rattle.table_printer.proofs.printer.Printer.finish.Goals as goal

pub returns : goal.returns
returns c = λ names all is.
    let d = decimals_of c.args.display.now in
    let p = c.args.self in
    let open_so_far =
    subst (λ own. Stands names all all d own p.headings.items (grown p.lines)) c.in-Some.is is in
    ap (λ head. head ++ grown p.lines) c.in_ok-head.ensures
    ∙ whole_open names all d p.headings.items c.in-Some.own (grown p.lines) open_so_far
