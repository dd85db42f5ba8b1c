use Rattle.std.proofs.Common.{◌≡◌, ◌++◌, ◌<◌, ℕ, List, length, get_or, map, take, false, Some, sym, ap, ◌∙◌, arith}
use Rattle.std.specs.List.{flat_map, slice_get}
use Rattle.std.proofs.lemmas.List.{get_or-map, length-map}
use Rattle.std.proofs.lemmas.Option.{slice_get-get_or}
use Rattle.query_values.specs.declared.value.Value.TheVariants.{Null}
use Rattle.posting_table.specs.Decimals.{decimals_of}
use Rattle.table_printer.specs.Heading.{width_of}
use Rattle.table_printer.specs.Layout.{before_gap}
use Rattle.table_printer.specs.Line.{placed_text}
use Rattle.table_printer.specs.Table.{padded, pieces}
use Rattle.table_printer.specs.declared.lines.Placed.{Placed}
use Rattle.table_printer.proofs.LayoutFacts.{spread_more}
use Rattle.table_printer.proofs.TableFacts.{pieces_more}
use Rattle.table_printer.proofs.lines.push_cells.Goals as goal

pub loop-column-init : goal.loop-column-init
loop-column-init g c = λ before is. is

pub loop-column-preserved : goal.loop-column-preserved
loop-column-preserved g c = λ before at.
    let ws : List ℕ = map width_of c.args.headings.now in
    let cells = g.L.Line.cells c.args.line.now in
    let shown = placed_text (decimals_of c.args.display.now) in
    let many = length-map c.args.headings.now width_of in
    let i = c.loop-column.column in
    let under : i < length c.args.headings.now =
    omega (arith, c.loop-column-test.true, c.requires.within) in
    let within : i < length ws = omega (arith, many, under) in
    let none : Placed = record { cell = Null; stands_right = false } in
    let x = get_or cells i none in
    let is : Some x ≡ slice_get cells i =
    sym (slice_get-get_or cells i none (omega (arith, under, c.requires.many))) in
    let width =
    sym (get_or-map width_of c.args.headings.now i c.index-headings-column.result 0 under) in
    let all = pieces ws (map shown cells) in
    c.in_ok-push_placed.ensures x is
    ∙ (λ k. c.loop-column.invariant before at k ++ before_gap (padded (width k) (shown x)))
    ∙ spread_more before (take i all) _ (padded (get_or ws i 0) (shown x))
    (pieces_more shown ws cells i x within is)

pub returns : goal.returns
returns g c = λ before at.
    let ws : List ℕ = map width_of c.args.headings.now in
    let cells = g.L.Line.cells c.args.line.now in
    let all = pieces ws (map (placed_text (decimals_of c.args.display.now)) cells) in
    let last : c.loop-column.column ≡ c.args.to =
    omega (arith, c.requires.order, c.loop-column-test.false) in
    c.loop-column.invariant before at ∙ ap (λ n. before ++ flat_map before_gap (take n all)) last
