use Rattle.std.proofs.Common.{ap, arith, length}
use Rattle.std.specs.Int.{w128}
use Rattle.std.proofs.lemmas.Int.{to_z-of_z}
use Rattle.number_texts.proofs.PrintableFacts.{bounded, printable_number}
use Rattle.number_texts.specs.Digits.{number_text}
use Rattle.cell_texts.proofs.Printable.{width_printable}
use Rattle.cell_texts.proofs.widening.wider_by_number.Goals as goal

pub returns-then-fits : goal.returns-then-fits
returns-then-fits c =
    let count = c.args.count in
    let text = number_text count c.args.places 0 in
    let wide =
    width_printable text (printable_number count c.args.places 0 (bounded count c.ranges.count)) in
    let same =
    ap (λ n. length (number_text n c.args.places 0)) (to_z-of_z w128 count c.ranges.count) in
    let few = c.fits.ensures c.if-fits.true in omega (arith, wide, same, few)
