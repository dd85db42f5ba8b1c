use Rattle.std.proofs.Common.{◌≡◌, ◌∙◌, length, arith}
use Rattle.table_printer.proofs.LayoutFacts.{ended}
use Rattle.table_printer.proofs.lines.push_line.Goals as goal

pub returns : goal.returns
returns g c =
    let line = c.in_ok-push_joined.ensures in
    let start : c.len-start.result ≡ length c.args.out.now.items =
    omega (arith, c.len-start.ensures, c.args.out.now.ok) in
    c.in_ok-end_line.ensures
    ∙ ended c.args.out.now.items c.push_joined.new.out.items line.0 _ c.len-start.result
    c.in_ok-push_joined.field-0 start line.1 line.2
