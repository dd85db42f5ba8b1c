use Rattle.std.proofs.Common.{◌≡◌, ◌<◌, ◌+◌, ◌++◌, [], ap, arith, drop, length, length-take-le, map, sym, take, ◌∙◌}
use Rattle.std.proofs.Math.Seq.{take-append_seam}
use Rattle.std.proofs.lemmas.List.{take_all}
use Rattle.posting_table.specs.Decimals.{decimals_of}
use Rattle.table_printer.specs.Heading.{bare_heading, heading_text, width_of, with_row}
use Rattle.table_printer.proofs.HeadingFacts.{known_cells, length-under, one_more, over_none, texts_are, under}
use Rattle.table_printer.proofs.HeadingFacts.{widths_are}
use Rattle.table_printer.proofs.headings.headings.Goals as goal

pub loop-number-init : goal.loop-number-init
loop-number-init g c = record {
  under = c.in_ok-headings.ensures.bare
      ∙ ap (λ ns. map bare_heading (take c.args.count ns)) c.requires.names
      ∙ over_none (decimals_of c.args.display.now) 0
      (take c.args.count (g.T.Rows.names c.args.table.now));
  len = c.in_ok-headings.ensures.len;
  before = tt;
}

pub widen_all-requires-clause-known : goal.widen_all-requires-clause-known
widen_all-requires-clause-known g c =
    let display = decimals_of c.args.display.now in
    let same = c.deref_mut.ensures.value in
    ap (λ hs. with_row display hs (take c.alike-known.result (g.T.Rows.values c.row-row.result))) same
    ∙ known_cells g.T.Rows.values display c.loop-number.headings.items c.row-row.result
    c.alike-known.result c.loop-number.before c.alike-known.ensures c.loop-number.invariant.before
    ∙ sym same

pub widen_all-requires-clause-many : goal.widen_all-requires-clause-many
widen_all-requires-clause-many g c =
    let rows = g.T.Rows.rows c.args.table.now in
    let names = take c.args.count (g.T.Rows.names c.args.table.now) in
    let few = length-take-le c.args.count (g.T.Rows.names c.args.table.now) c.requires.few in
    let i = c.loop-number.number in
    let last = c.len-number-end.ensures in
    let before = c.loop-number-test.true in
    let wide = ap length c.row-row.ensures ∙ c.requires.even i [] (omega (arith, last, before)) in
    omega (
      arith,
      c.deref_mut.ensures.len,
      c.loop-number.invariant.len,
      wide,
      c.requires.few,
    )

pub loop-number-preserved : goal.loop-number-preserved
loop-number-preserved g c =
    let display = decimals_of c.args.display.now in
    let rows = g.T.Rows.rows c.args.table.now in
    let names = take c.args.count (g.T.Rows.names c.args.table.now) in
    let few = length-take-le c.args.count (g.T.Rows.names c.args.table.now) c.requires.few in
    let i = c.loop-number.number in
    let last = c.len-number-end.ensures in
    let before = c.loop-number-test.true in
    let within : i < length rows = omega (arith, last, before) in
    let new = c.widen_all.new.headings in
    let made : new ≡ under display 0 (take (i + 1) rows) names =
    c.in_ok-widen_all.ensures
    ∙ (λ k. with_row display
    ((c.deref_mut.ensures.value ∙ c.loop-number.invariant.under) k) (c.row-row.ensures k))
    ∙ one_more display rows names i within
    (let wide = c.requires.even i [] within in omega (arith, wide, few, c.requires.few)) in
    let sized : c.loop-number.headings.len ≡ length new =
    c.loop-number.invariant.len
    ∙ sym (ap length made ∙ length-under display 0 (take (i + 1) rows) names ∙ few) in
    let whole =
    ap (λ n. take n (new ++ drop (length new) c.loop-number.headings.items)) sized
    ∙ take-append_seam new (drop (length new) c.loop-number.headings.items) in
    record {
      under = whole ∙ made;
      len = c.loop-number.invariant.len;
      before = (_, sym c.in_ok-widen_all.ensures ∙ sym whole);
    }

pub returns : goal.returns
returns g c =
    let display = decimals_of c.args.display.now in
    let rows = g.T.Rows.rows c.args.table.now in
    let names = take c.args.count (g.T.Rows.names c.args.table.now) in
    let few = length-take-le c.args.count (g.T.Rows.names c.args.table.now) c.requires.few in
    let last = c.len-number-end.ensures in
    let all = c.loop-number.invariant.under
    ∙ ap (λ rs. under display 0 rs names)
    (take_all c.loop-number.number rows
    (omega (arith, last, c.loop-number.auto.number-end, c.loop-number-test.false))) in
    record {
      headers = ap (map heading_text) all ∙ texts_are display 0 rows names;
      widths = ap (map width_of) all ∙ widths_are display rows names;
      len = c.loop-number.invariant.len;
    }
