use Rattle.std.proofs.Common.{◌++◌, ◌∷◌, ap, sym, ◌∙◌, append_assoc}
use Rattle.std.specs.Int.{w128}
use Rattle.std.proofs.lemmas.Int.{to_z-of_z}
use Rattle.posting_table.specs.Decimals.{decimals_of}
use Rattle.number_texts.specs.Digits.{number_text}
use Rattle.number_texts.proofs.PrintableFacts.{bounded, printable_number, printable_units}
use Rattle.cell_texts.specs.CellText.{between_entries}
use Rattle.cell_texts.proofs.cells.push_held.Goals as goal

pub returns-clause-text : goal.returns-clause-text
returns-clause-text c =
    let out = c.args.out.now.items in
    let currency = c.args.currency.now in
    let least = decimals_of c.args.display.now currency in
    let number = number_text c.args.count c.args.places least in
    c.in_ok-push_name_between.ensures
    ∙ ap (λ l. c.push.new.out.items ++ 32 ∷ (l ++ between_entries))
    (c.as_bytes.ensures.value ∙ c.text-2.ensures.text)
    ∙ ap (λ l. l ++ 32 ∷ (currency ++ between_entries))
    (rw c.decimals_at-least.ensures at c.in_ok-push.ensures
    ∙ (λ k. out ++ number_text (to_z-of_z w128 c.args.count c.ranges.count k) c.args.places least))
    ∙ append_assoc out number (32 ∷ (currency ++ between_entries))
    ∙ ap (λ l. out ++ l) (sym (append_assoc number (32 ∷ currency) between_entries))

pub returns-clause-printable : goal.returns-clause-printable
returns-clause-printable c =
    let currency = c.args.currency.now in
    let least = decimals_of c.args.display.now currency in
    printable_units (number_text c.args.count c.args.places least) currency
    (printable_number c.args.count c.args.places least (bounded c.args.count c.ranges.count))
    c.text.ensures.is_currency
