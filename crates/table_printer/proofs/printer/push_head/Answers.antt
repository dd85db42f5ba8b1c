use Rattle.std.proofs.Common.{◌++◌, append_assoc, map, ap, ◌∙◌}
use Rattle.posting_table.specs.Decimals.{decimals_of}
use Rattle.table_printer.specs.Heading.{heading_text, width_of}
use Rattle.table_printer.specs.Layout.{rule_of}
use Rattle.table_printer.specs.Table.{line_of}
use Rattle.table_printer.proofs.InColumn.{header_texts}
use Rattle.table_printer.proofs.printer.push_head.Goals as goal

pub returns : goal.returns
returns c =
    let hs = c.args.headings.now in
    let ws = map width_of hs in
    let old = c.args.out.now.items in
    c.in_ok-push_rule.ensures
    ∙ ap (λ l. l ++ rule_of ws)
    (c.in_ok-push_line.ensures
    ∙ ap (λ t. old ++ line_of ws t) (header_texts (decimals_of c.args.display.now) hs))
    ∙ append_assoc old (line_of ws (map heading_text hs)) (rule_of ws)
