use Rattle.std.proofs.Common.{◌<◌, ◌≤◌, length, arith, ap, get_or, refl, slice_set, sym, ◌∙◌}
use Rattle.std.proofs.lemmas.List.{length-set}
use Rattle.posting_table.specs.Decimals.{decimals_of}
use Rattle.table_printer.specs.Heading.{with_cell}
use Rattle.table_printer.proofs.HeadingFacts.{next_cell, with_front}
use Rattle.table_printer.proofs.headings.widen_all.Goals as goal

pub loop-column-init : goal.loop-column-init
loop-column-init g c = record {
  headings = sym c.requires.known;
  len = refl;
}

pub loop-column-preserved : goal.loop-column-preserved
loop-column-preserved g c =
    let display = decimals_of c.args.display.now in
    let row = g.T.Rows.values c.args.row.now in
    let i = c.loop-column.column in
    let h = c.index-headings-column.result in
    let v = c.cell.result in
    record {
      headings = ap (slice_set c.loop-column.headings i) c.in_ok-widen.ensures
          ∙ ap (λ x. slice_set c.loop-column.headings i (with_cell display x v))
          (sym c.index-headings-column.is)
          ∙ (λ k. slice_set (c.loop-column.invariant.headings k) i (with_cell display h v))
          ∙ next_cell display c.args.headings.now row i h v c.requires.many
          (let e : i < length c.args.headings.now = omega (arith, c.loop-column-test.true, c.loop-column.invariant.len) in e) c.cell.ensures
          (c.index-headings-column.is ∙ ap (λ l. get_or l i h) c.loop-column.invariant.headings);
      len = length-set c.loop-column.headings i c.widen.new.heading
          ∙ c.loop-column.invariant.len;
    }

pub returns : goal.returns
returns g c =
    let display = decimals_of c.args.display.now in
    let few : length c.args.headings.now ≤ c.loop-column.column =
    omega (arith, c.loop-column-test.false, c.loop-column.invariant.len) in
    c.loop-column.invariant.headings
    ∙ with_front display c.args.headings.now (g.T.Rows.values c.args.row.now) c.loop-column.column few
