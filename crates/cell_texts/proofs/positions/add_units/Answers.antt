use Rattle.std.proofs.Common.{◌++◌, ap, ◌∙◌, to_z, of_z}
use Rattle.std.specs.Int.{is_in_range, w128}
use Rattle.std.specs.List.{list_all}
use Rattle.posting_table.specs.Decimals.{decimals_of}
use Rattle.cell_texts.specs.CellText.{units_text}
use Rattle.cell_texts.proofs.positions.add_units.Goals as goal

pub add_printable-requires : goal.add_printable-requires
add_printable-requires c =
    let all = list_all (is_in_range 32 126) in
    let units =
    units_text (decimals_of c.args.display.now) (to_z w128 (of_z w128 c.args.count))
    c.args.places c.args.currency.now in
    ap all c.deref.ensures.value ∙ ap all c.in_ok-push_amount.ensures.text
    ∙ ap (λ l. all (l ++ units)) c.clear.ensures.items ∙ c.in_ok-push_amount.ensures.printable
