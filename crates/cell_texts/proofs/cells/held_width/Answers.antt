use Rattle.std.proofs.Common.{length, ◌++◌, ◌∷◌, ap, ◌∙◌, arith, length-append}
use Rattle.std.specs.Int.{w128}
use Rattle.std.proofs.lemmas.Int.{to_z-of_z}
use Rattle.posting_table.specs.Decimals.{decimals_of}
use Rattle.number_texts.specs.Digits.{number_text}
use Rattle.number_texts.proofs.PrintableFacts.{bounded, printable_number, printable_units}
use Rattle.cell_texts.proofs.Printable.{width_printable}
use Rattle.cell_texts.proofs.cells.held_width.Goals as goal

pub returns-clause-width : goal.returns-clause-width
returns-clause-width c =
    let currency = c.args.currency.now in
    let count = c.args.count in
    let places = c.args.places in
    let least = decimals_of c.args.display.now currency in
    let number = number_text count places least in
    let wide =
    width_printable (number ++ 32 ∷ currency)
    (printable_units number currency
    (printable_number count places least (bounded count c.ranges.count))
    c.text.ensures.is_currency) in
    let sized =
    rw c.decimals_at-least.ensures at c.len.ensures.len
    ∙ ap (λ n. length (number_text n places least)) (to_z-of_z w128 count c.ranges.count) in
    let named = ap length c.text-2.ensures.text in
    omega (arith, wide, sized, named, length-append number (32 ∷ currency))

pub returns-clause-printable : goal.returns-clause-printable
returns-clause-printable c =
    let currency = c.args.currency.now in
    let least = decimals_of c.args.display.now currency in
    printable_units (number_text c.args.count c.args.places least) currency
    (printable_number c.args.count c.args.places least (bounded c.args.count c.ranges.count))
    c.text.ensures.is_currency
