use Rattle.std.proofs.Common.{◌++◌, ◌∷◌, [], sym, ◌∙◌, arith}
use Rattle.table_printer.proofs.HeadingFacts.{next_name}
use Rattle.table_printer.proofs.headings.bare_headings.Goals as goal

pub loop-column-preserved : goal.loop-column-preserved
loop-column-preserved g c =
    let made = c.in_ok-heading_of.field-0 in record {
      bare = c.in_ok-push.ensures.items
          ∙ (λ k. c.loop-column.invariant.bare k ++ c.in_ok-heading_of.ensures.bare k ∷ [])
          ∙ sym (next_name (g.T.Rows.names c.args.table.now) c.loop-column.column made.name
          c.in_ok-heading_of.ensures.name);
      len = omega (arith, c.in_ok-push.ensures.len, c.loop-column.invariant.len);
    }
