use Rattle.std.proofs.Common.{◌≡◌, ◌-◌, ◌++◌, ℕ, List, Some, length, map, replicate, sym, ap, ◌∙◌, arith}
use Rattle.std.proofs.Common.{append_assoc}
use Rattle.std.specs.List.{flat_map, slice_get}
use Rattle.std.proofs.lemmas.List.{length-map, take_all}
use Rattle.posting_table.specs.Decimals.{decimals_of}
use Rattle.cell_texts.specs.CellText.{cell_text}
use Rattle.table_printer.specs.Heading.{width_of}
use Rattle.table_printer.specs.Layout.{before_gap}
use Rattle.table_printer.specs.Line.{placed_text, row_cells}
use Rattle.table_printer.specs.Table.{pieces}
use Rattle.cell_texts.specs.Width.{text_width}
use Rattle.table_printer.proofs.InColumn.{width_seen}
use Rattle.table_printer.proofs.LayoutFacts.{ended}
use Rattle.table_printer.proofs.OpenFacts.{left_filled, open_line}
use Rattle.table_printer.proofs.TableFacts.{pieces-le}
use Rattle.table_printer.proofs.open.push_open_line.Goals as goal

pub returns-clause-line : goal.returns-clause-line
returns-clause-line g c = λ w.
    let d = decimals_of c.args.display.now in
    let ws : List ℕ = map width_of c.args.headings.now in
    let many : length ws ≡ length c.args.headings.now = length-map c.args.headings.now width_of in
    let row = g.T.Rows.values c.args.row.now in
    let v = c.cell.result in
    let is : Some v ≡ slice_get row (length ws) = c.cell.ensures ∙ ap (slice_get row) (sym many) in
    let text = cell_text d v in
    let rest = w - text_width text in
    let cells = map (placed_text d) (row_cells row) in
    let all : List (List ℕ) = pieces ws cells in
    let front : List ℕ = flat_map before_gap all in
    let old = c.args.out.now.items in
    let start : c.len-start.result ≡ length old =
    omega (arith, c.len-start.ensures, c.args.out.now.ok) in
    c.in_ok-end_line.ensures
    ∙ ended old c.push_cell.new.out.items (front ++ text) _ c.len-start.result rest start
    (c.in_ok-own.ensures.text
    ∙ ap (λ l. l ++ text) (c.in_ok-push_cells.ensures old c.in_ok-push_front.ensures.text
    ∙ ap (λ l. old ++ flat_map before_gap l) (take_all (length c.args.headings.now) all
    (let few = pieces-le ws cells in omega (arith, few, many))))
    ∙ append_assoc old front text)
    (append_assoc front text (replicate rest 32)
    ∙ ap (λ l. front ++ l) (left_filled d (length c.args.headings.now) w row v c.cell.ensures c.requires.left)
    ∙ open_line d ws w row v is)

pub returns-clause-own : goal.returns-clause-own
returns-clause-own g c =
    c.in_ok-own.ensures.width
    ∙ sym (width_seen (decimals_of c.args.display.now) (g.T.Rows.values c.args.row.now)
    (length c.args.headings.now) c.cell.result c.cell.ensures)
