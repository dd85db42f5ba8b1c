use Rattle.std.proofs.Common.{◌&&◌, ◌+◌, drop, ap, sym, ◌∙◌}
use Rattle.std.specs.List.{list_all}
use Rattle.cell_texts.specs.CellText.{is_plain}
use Rattle.cell_texts.proofs.InventoryFacts.{plain_rest}
use Rattle.cell_texts.proofs.inventories.are_plain.Goals as goal

pub returns-then-not-is_plain : goal.returns-then-not-is_plain
returns-then-not-is_plain c =
    let es = c.args.entries.now in
    let i = c.loop-place.place in
    ap (λ b. b && list_all is_plain (drop (i + 1) es)) c.if-not-is_plain.ensures
    ∙ sym (plain_rest es i c.entry.result c.entry.ensures) ∙ c.loop-place.invariant

pub loop-place-preserved : goal.loop-place-preserved
loop-place-preserved c =
    let es = c.args.entries.now in
    let i = c.loop-place.place in
    ap (λ b. b && list_all is_plain (drop (i + 1) es)) c.if-not-is_plain.ensures
    ∙ sym (plain_rest es i c.entry.result c.entry.ensures) ∙ c.loop-place.invariant
