use Rattle.std.proofs.Common.{length, sym, ap, ◌∙◌}
use Rattle.std.specs.Int.{w128}
use Rattle.std.proofs.lemmas.Int.{to_z-of_z}
use Rattle.number_texts.specs.Digits.{number_text}
use Rattle.number_texts.proofs.PrintableFacts.{bounded, printable_number}
use Rattle.cell_texts.proofs.OwnDecimals.{same_text}
use Rattle.cell_texts.proofs.Printable.{width_printable}
use Rattle.cell_texts.proofs.cells.exact_width.Goals as goal

pub returns : goal.returns
returns c =
    let count = c.args.count in
    let places = c.args.places in
    c.number_len.ensures.len
    ∙ ap length (same_text _ places c.own_decimals.result c.own_decimals.ensures)
    ∙ ap (λ n. length (number_text n places 0)) (to_z-of_z w128 count c.ranges.count)
    ∙ sym (width_printable (number_text count places 0)
    (printable_number count places 0 (bounded count c.ranges.count)))
