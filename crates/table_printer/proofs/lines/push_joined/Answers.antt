use Rattle.std.proofs.Common.{◌≡◌, ◌++◌, ◌∷◌, [], ℕ, List, length, map, get_or, false, Some, sym, ap, subst, ◌∙◌, arith}
use Rattle.std.proofs.Common.{length-append}
use Rattle.std.specs.List.{flat_map, slice_get}
use Rattle.std.proofs.lemmas.List.{append-nil, length-map, map-append, take_all}
use Rattle.std.proofs.lemmas.Option.{slice_get-get_or}
use Rattle.query_values.specs.declared.value.Value.TheVariants.{Null}
use Rattle.posting_table.specs.Decimals.{decimals_of}
use Rattle.table_printer.specs.Heading.{width_of}
use Rattle.table_printer.specs.Layout.{Leaves, before_gap, joined}
use Rattle.table_printer.specs.Line.{placed_text}
use Rattle.table_printer.specs.Table.{padded, pieces}
use Rattle.table_printer.specs.declared.headings.Heading.{Heading}
use Rattle.table_printer.specs.declared.lines.Placed.{Placed}
use Rattle.table_printer.proofs.LayoutFacts.{leaves_behind}
use Rattle.table_printer.proofs.TableFacts.{line_joined, pieces-le}
use Rattle.table_printer.proofs.lines.push_joined.Goals as goal

-- the first cells, and the last
pub returns : goal.returns
returns g c =
    let hs : List Heading = c.in-Some.front.now in
    let h : Heading = c.in-Some.last.now in
    let ws : List ℕ = map width_of hs in
    let cells = g.L.Line.cells c.args.line.now in
    let shown = placed_text (decimals_of c.args.display.now) in
    let many = length-map hs width_of in
    let parts : c.args.headings.now ≡ hs ++ h ∷ [] = c.in-Some.ensures.cases.0 in
    let all = ap length parts in
    let none : Placed = record { cell = Null; stands_right = false } in
    let x = get_or cells (length hs) none in
    let is : Some x ≡ slice_get cells (length hs) =
    sym (slice_get-get_or cells (length hs) none
    (omega (arith, all, length-append hs (h ∷ []), c.requires))) in
    let at : Some x ≡ slice_get cells (length ws) = is ∙ ap (slice_get cells) (sym many) in
    let widths : ws ++ h.width ∷ [] ≡ map width_of c.args.headings.now =
    sym (ap (map width_of) parts ∙ map-append width_of hs (h ∷ [])) in
    let out = c.args.out.now.items in
    let all_front = pieces ws (map shown cells) in
    let front : c.push_cells.new.out.items ≡ out ++ flat_map before_gap all_front =
    c.in_ok-push_cells.ensures out (sym (append-nil out))
    ∙ ap (λ l. out ++ flat_map before_gap l)
    (take_all (length hs) all_front
    (let few = pieces-le ws (map shown cells) in omega (arith, few, many))) in
    subst (λ t. Leaves c.args.out.now.items c.push_last.new.out.items c.in_ok-left.left t)
    (line_joined shown ws h.width cells x at ∙ ap (λ l. joined (pieces l (map shown cells))) widths)
    (leaves_behind c.args.out.now.items c.push_cells.new.out.items c.push_last.new.out.items
    (flat_map before_gap (pieces ws (map shown cells))) (padded h.width (shown x)) c.in_ok-left.left
    front (c.in_ok-left.ensures x is))
