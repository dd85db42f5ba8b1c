use Rattle.std.proofs.Common.{subst}
use Rattle.outputs.specs.Pieces.{Puts}
use Rattle.fault_printer.proofs.LineFacts.{line_is}
use Rattle.fault_printer.proofs.lines.push_parts.Goals as goal

pub returns : goal.returns
returns g c =
    let line = line_is c.args.name.now c.args.number.now c.args.text.now c.as_bytes.result.now
    c.as_bytes-2.result.now c.as_bytes-3.result.now c.as_bytes-4.result.now c.as_bytes-5.result.now
    c.as_bytes-6.result.now c.as_bytes.ensures.value c.as_bytes-2.ensures.value
    c.as_bytes-3.ensures.value c.as_bytes-4.ensures.value c.as_bytes-5.ensures.value
    c.as_bytes-6.ensures.value in
    subst (λ l. Puts g.W.Output c.args.out.now c.push_all.new.out c.args.pieces.now
    c.push_all.new.self l c.push_all.result) line c.push_all.ensures
