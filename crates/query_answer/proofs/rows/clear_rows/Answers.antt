use Rattle.std.proofs.Common.{◌≡◌, ◌-◌, ◌+◌, suc, zero, ap, arith, length, refl, subst, sym, ◌∙◌}
use Rattle.std.proofs.lemmas.List.{length-map}
use Rattle.query_answer.proofs.GivenUpFacts.{all_given_up, none_given_up, nulls_from, one_more, row_given_up}
use Rattle.query_answer.proofs.SpanFacts.{lies_at}
use Rattle.query_answer.specs.Spans.{LieApart, rows_in, values_in}
use Rattle.query_answer.proofs.rows.clear_rows.Goals as goal

pub clear_span-requires-clause-up : goal.clear_span-requires-clause-up
clear_span-requires-clause-up c =
    (lies_at 0 (length c.args.values.now) c.args.spans.now c.loop-number.number
    (record { start = 0; end = 0 })
    (omega (arith, c.loop-number-test.true, c.min-number-end.ensures)) c.requires).ends

pub clear_span-requires-clause-inside : goal.clear_span-requires-clause-inside
clear_span-requires-clause-inside c =
    let lies = lies_at 0 (length c.args.values.now) c.args.spans.now c.loop-number.number
    (record { start = 0; end = 0 })
    (omega (arith, c.loop-number-test.true, c.min-number-end.ensures)) c.requires in
    let within = lies.within in
    omega (arith, within, c.loop-number.invariant.count)

pub loop-number-init : goal.loop-number-init
loop-number-init c =
    let rows = rows_in c.args.values.now c.args.spans.now in
    let none : 0 ≡ c.args.first - c.args.first = omega arith in
    record {
      count = refl;
      from = omega arith;
      few = omega arith;
      rows = none_given_up c.args.first rows ∙ ap (λ n. nulls_from c.args.first n rows) none;
    }

pub loop-number-preserved : goal.loop-number-preserved
loop-number-preserved c =
    let ss = c.args.spans.now in
    let vs = c.loop-number.values in
    let first = c.args.first in
    let number = c.loop-number.number in
    let before = c.loop-number.invariant in
    let count = before.count in
    let from = before.from in
    let few = before.few in
    let test = c.loop-number-test.true in
    let least = c.min-number-end.ensures in
    let rows = rows_in c.args.values.now ss in
    let long = length-map ss (values_in c.args.values.now) in
    let further : suc (number - first) ≡ (number + 1) - first = omega (arith, from) in
    record {
      count = c.clear_span.ensures.left.count ∙ count;
      from = omega (arith, from);
      few = omega (arith, from, few, test, least);
      rows = row_given_up 0 (length vs) vs c.clear_span.new.values ss number
          (record { start = 0; end = 0 })
          (subst (λ n. LieApart 0 n ss) (sym count) c.requires)
          (omega (arith, test, least)) c.clear_span.ensures.left c.clear_span.ensures.cleared
          ∙ ap (nulls_from number (suc zero)) before.rows
          ∙ one_more first (number - first) number rows (omega (arith, from))
          (omega (arith, test, least, long))
          ∙ ap (λ n. nulls_from first n rows) further;
    }

pub returns-clause-rows : goal.returns-clause-rows
returns-clause-rows c =
    let ss = c.args.spans.now in
    let first = c.args.first in
    let number = c.loop-number.number in
    let before = c.loop-number.invariant in
    let from = before.from in
    let test = c.loop-number-test.false in
    let least = c.min-number-end.ensures in
    let long = length-map ss (values_in c.args.values.now) in
    before.rows
    ∙ all_given_up first (number - first) c.args.end (rows_in c.args.values.now ss) before.few
    (omega (arith, from, test, least, long))
