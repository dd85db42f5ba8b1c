use Rattle.std.proofs.Common.{length, ◌++◌, ◌∷◌, ap, ◌∙◌, arith, length-append, append_assoc}
use Rattle.std.specs.Int.{w128}
use Rattle.std.proofs.lemmas.Int.{to_z-of_z}
use Rattle.posting_table.specs.Decimals.{decimals_of}
use Rattle.number_texts.specs.Digits.{number_text}
use Rattle.cell_texts.proofs.Printable.{width_printable}
use Rattle.number_texts.proofs.PrintableFacts.{bounded, printable_number, printable_units}
use Rattle.cell_texts.proofs.cells.push_units.Goals as goal

pub returns-clause-text : goal.returns-clause-text
returns-clause-text c =
    let out = c.args.out.now.items in
    let currency = c.args.currency.now in
    let least = decimals_of c.args.display.now currency in
    let number = number_text c.args.count c.args.places least in
    (rw c.decimals-least.ensures at c.in_ok-push_number_named.ensures)
    ∙ (λ k. (out ++ number_text (to_z-of_z w128 c.args.count c.ranges.count k) c.args.places least)
    ++ 32 ∷ (c.as_bytes.ensures.value ∙ c.text.ensures.text) k)
    ∙ append_assoc out number (32 ∷ currency)

pub returns-clause-width : goal.returns-clause-width
returns-clause-width c =
    let out = c.args.out.now.items in
    let currency = c.args.currency.now in
    let least = decimals_of c.args.display.now currency in
    let number = number_text c.args.count c.args.places least in
    let wide =
    width_printable (number ++ 32 ∷ currency)
    (printable_units number currency
    (printable_number c.args.count c.args.places least (bounded c.args.count c.ranges.count))
    c.text.ensures.is_currency) in
    let sized =
    ap length
    ((rw c.decimals-least.ensures at c.in_ok-push_number_named.ensures)
    ∙ (λ k. (out ++ number_text (to_z-of_z w128 c.args.count c.ranges.count k) c.args.places least)
    ++ 32 ∷ (c.as_bytes.ensures.value ∙ c.text.ensures.text) k)
    ∙ append_assoc out number (32 ∷ currency)) in
    omega (
      arith,
      wide,
      sized,
      length-append out (number ++ 32 ∷ currency),
      length-append
          number (32 ∷ currency),
      c.len.ensures,
      c.len-start.ensures,
      c.args.out.now.ok,
      c.push_number_named.new.out.ok,
    )

pub returns-clause-printable : goal.returns-clause-printable
returns-clause-printable c =
    let currency = c.args.currency.now in
    let least = decimals_of c.args.display.now currency in
    printable_units (number_text c.args.count c.args.places least) currency
    (printable_number c.args.count c.args.places least (bounded c.args.count c.ranges.count))
    c.text.ensures.is_currency
