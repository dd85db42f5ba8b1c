use Rattle.std.proofs.Common.{◌++◌, map, ◌∙◌}
use Rattle.table_printer.specs.Heading.{heading_text, width_of}
use Rattle.table_printer.specs.Printing.{head_of}
use Rattle.table_printer.proofs.printer.open_head.Goals as goal

pub returns : goal.returns
returns c =
    let hs = c.deref.ensures.value ∙ c.in_ok-push.ensures.items in
    c.in_ok-push_head.ensures
    ∙ (λ i. c.new-head.ensures.items i ++ head_of (map width_of (hs i)) (map heading_text (hs i)))
