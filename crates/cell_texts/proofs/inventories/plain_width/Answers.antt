use Rattle.std.proofs.Common.{◌≡◌, ℕ, ℤ, List, None, arith, rules, subst, sym, ap, ◌∙◌, of_z, to_z}
use Rattle.std.specs.Int.{w128}
use Rattle.std.specs.Int.RustNames.{FitsSigned}
use Rattle.std.proofs.lemmas.Int.{to_z-of_z}
use Rattle.bean_lots.specs.Inventory.{position_of}
use Rattle.posting_table.specs.Decimals.{decimals_of}
use Rattle.number_texts.proofs.PrintableFacts.{Printable}
use Rattle.cell_texts.specs.CellText.{units_text}
use Rattle.cell_texts.specs.Width.{text_width}
use Rattle.cell_texts.proofs.Printable.{width_printable}
use Rattle.cell_texts.proofs.WidthFacts.{AreBare, none_for, widths, width_in_order}
use Rattle.cell_texts.proofs.inventories.plain_width.Goals as goal

pub loop-key-preserved : goal.loop-key-preserved
loop-key-preserved c =
    let display = decimals_of c.args.display.now in
    let places = c.args.places in
    let e = position_of c.in-Some.key.now c.in-Some.count in
    let front = c.in-Some.ensures.some in
    let units : ℤ → List ℕ → List ℕ = λ n currency. units_text display n places currency in
    let fits : FitsSigned w128 e.count = search rules in
    let text : units (to_z w128 (of_z w128 e.count)) c.currency.result.now ≡ units e.count e.key.currency =
    λ k. units (to_z-of_z w128 e.count fits k) (c.currency.ensures k) in
    let own : Printable (units e.count e.key.currency) =
    subst Printable text c.held_width-own.ensures.printable in
    let bare : e.key.lot ≡ None = sym c.lot.ensures
    ∙ none_for _ c.lot.result (sym c.is_some.ensures ∙ c.if-is_some.false) in
    let wide = c.held_width-own.ensures.width ∙ ap text_width text
    ∙ width_printable (units e.count e.key.currency) own in
    record {
      width = omega (
        arith,
        c.in_ok-width.ensures,
        wide,
        c.loop-key.invariant.width,
        ap (widths display places) front,
      );
      bare = λ h. c.loop-key.invariant.bare
          (subst (AreBare display places) (sym front) (record { bare = bare; shown = own }, h));
    }

pub returns : goal.returns
returns c =
    let display = decimals_of c.args.display.now in
    let places = c.args.places in
    let done = c.in_default.ensures.none in
    let none = ap (widths display places) done in
    let width = width_in_order display places c.args.held.now
    (c.loop-key.invariant.bare (subst (AreBare display places) (sym done) tt)) in
    omega (arith, c.saturating_sub.ensures, none, width, c.loop-key.invariant.width)
