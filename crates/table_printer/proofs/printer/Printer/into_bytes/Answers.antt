use Rattle.std.proofs.Common.{◌++◌, arith, ap, ◌∙◌}
use Rattle.table_printer.proofs.OpenFacts.{turned}
use Rattle.table_printer.proofs.printer.Printer.into_bytes.Goals as goal

pub returns : goal.returns
returns c = λ names all is.
    let rows = c.in_ok-text.text.items in
    let head = c.in_ok-head.head.items in
    c.rotate_left.ensures.items
    ∙ turned rows head _ c.len-rows.result (omega (arith, c.len-rows.ensures, c.in_ok-text.text.ok))
    (c.in_ok-extend_from_slice.ensures.items ∙ ap (λ h. rows ++ h) c.deref.ensures.value)
    ∙ ap (λ l. head ++ l) c.in_ok-text.ensures
    ∙ c.in_ok-head.ensures names all is
