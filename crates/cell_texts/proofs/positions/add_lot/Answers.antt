use Rattle.std.proofs.Common.{◌≡◌, ◌++◌, List, ℕ, codes, ap, ◌∙◌, append_assoc, rules}
use Rattle.std.specs.Int.{w128}
use Rattle.std.specs.Int.RustNames.{FitsSigned}
use Rattle.std.specs.String.{string_bytes}
use Rattle.std.proofs.lemmas.Int.{to_z-of_z}
use Rattle.posting_table.specs.Decimals.{decimals_of}
use Rattle.number_texts.specs.Digits.{day_text}
use Rattle.cell_texts.specs.CellText.{label_text, units_text}
use Rattle.cell_texts.proofs.positions.add_lot.Goals as goal

regroup : (old a b c d e f : List ℕ)
    → (((((old ++ a) ++ b) ++ c) ++ d) ++ e) ++ f ≡ old ++ (((((a ++ b) ++ c) ++ d) ++ e) ++ f)
regroup old a b c d e f = simp append_assoc

pub returns : goal.returns
returns c =
    let lot = c.args.lot.now in
    let display = decimals_of c.args.display.now in
    let old = string_bytes c.args.scratch.now.clean in
    let units = units_text display lot.cost.count 8 lot.cost.currency in
    let fits : FitsSigned w128 lot.cost.count = search rules in
    let costs =
    c.in_ok-add_units.ensures
    ∙ (λ k. c.in_ok-push_str.ensures.bytes k
    ++ units_text display (to_z-of_z w128 lot.cost.count fits k) 8 lot.cost.currency) in
    let days =
    c.in_ok-add_day.ensures
    ∙ ap (λ l. l ++ day_text lot.day)
    (c.in_ok-push_str-2.ensures.bytes ∙ ap (λ l. l ++ codes ", ") costs) in
    c.in_ok-push_str-3.ensures.bytes
    ∙ ap (λ l. l ++ codes "}") (c.in_ok-add_label.ensures
    ∙ ap (λ l. l ++ label_text lot.label) days)
    ∙ regroup old (codes " {") units (codes ", ") (day_text lot.day) (label_text lot.label)
    (codes "}")
