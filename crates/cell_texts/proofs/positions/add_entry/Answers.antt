use Rattle.std.proofs.Common.{◌≡◌, ◌++◌, sym, ap, ◌∙◌, append_assoc}
use Rattle.std.specs.Int.{w128}
use Rattle.std.specs.String.{string_bytes}
use Rattle.std.proofs.lemmas.Int.{to_z-of_z}
use Rattle.posting_table.specs.Decimals.{decimals_of}
use Rattle.cell_texts.specs.CellText.{held_text, lot_text, units_text}
use Rattle.cell_texts.proofs.positions.add_entry.Goals as goal

pub returns-in_ok-add_lot : goal.returns-in_ok-add_lot
returns-in_ok-add_lot c =
    let key = c.args.key.now in
    let display = decimals_of c.args.display.now in
    let old = string_bytes c.args.scratch.now.clean in
    let lot = lot_text display c.in-Some.lot in
    let units = units_text display c.args.count c.args.places key.currency in
    let made : string_bytes c.add_units.new.scratch.clean ≡ old ++ units =
    c.in_ok-add_units.ensures
    ∙ (λ k. old
    ++ units_text display (to_z-of_z w128 c.args.count c.ranges.count k) c.args.places
    key.currency) in
    c.in_ok-add_lot.ensures ∙ ap (λ l. l ++ lot) made ∙ append_assoc old units lot
    ∙ ap (λ l. old ++ held_text display units l) (sym c.in-Some.is)
