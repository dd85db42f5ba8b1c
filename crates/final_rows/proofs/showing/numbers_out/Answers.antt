use Rattle.std.proofs.Common.{◌≡◌, [], ap, length, map, subst, sym, take, ◌∙◌}
use Rattle.query_answer.specs.Rows.{ArePicked}
use Rattle.query_rows.specs.Same.{each_once}
use Rattle.theory.specs.Arrangement.{IsArrangement}
use Rattle.final_rows.proofs.NumberFacts.{all_picked, all_rows, picked_in_order, picked_limited}
use Rattle.final_rows.proofs.NumberFacts.{rows_in_order}
use Rattle.final_rows.proofs.ShownFacts.{numbers_out, once_out}
use Rattle.final_rows.specs.Numbers.{rows_at}
use Rattle.final_rows.specs.Order.{comes_before}
use Rattle.final_rows.proofs.showing.numbers_out.Goals as goal

pub shown_once-requires : goal.shown_once-requires
shown_once-requires c =
    let o = c.args.output.now in
    let rows = c.args.rows.now in
    let n = length rows in
    subst (ArePicked n) (sym c.deref.ensures.value)
    (picked_in_order rows o.is_descending o.order c.in_ok-numbers.numbers.items
    c.arrange.new.numbers.items c.in_ok-arrange.ensures n
    (subst (ArePicked n) (sym c.in_ok-numbers.ensures) (all_picked rows)))

pub returns-then-output-clause-picked : goal.returns-then-output-clause-picked
returns-then-output-clause-picked c =
    let n = length c.args.rows.now in
    subst (ArePicked n) (sym c.limit_to.ensures)
    (picked_limited n c.args.output.now.limit c.in_ok-once.once.items c.in_ok-once.ensures.picked)

pub returns-then-output-clause-out : goal.returns-then-output-clause-out
returns-then-output-clause-out c =
    let o = c.args.output.now in
    let rows = c.args.rows.now in
    let sorted = c.arrange.new.numbers.items in
    let width = length c.as_slice-width.result.now in
    let once = c.in_ok-once.once.items in
    once_out o rows sorted
    (subst (λ l. IsArrangement (comes_before o) l (rows_at rows sorted))
    (ap (rows_at rows) c.in_ok-numbers.ensures ∙ all_rows rows)
    (rows_in_order rows o.is_descending o.order c.in_ok-numbers.numbers.items sorted
    c.in_ok-arrange.ensures))
    width once c.limit_to.new.numbers.items (ap length c.as_slice-width.ensures) c.if-output.true
    (subst (λ l. map (take width) (rows_at rows once) ≡ each_once [] (map (take width) (rows_at rows l)))
    c.deref.ensures.value c.in_ok-once.ensures.shown)
    c.limit_to.ensures

pub returns-clause-picked : goal.returns-clause-picked
returns-clause-picked c =
    let o = c.args.output.now in
    let rows = c.args.rows.now in
    let n = length rows in
    subst (ArePicked n) (sym c.limit_to-2.ensures)
    (picked_limited n o.limit c.arrange.new.numbers.items
    (picked_in_order rows o.is_descending o.order c.in_ok-numbers.numbers.items
    c.arrange.new.numbers.items c.in_ok-arrange.ensures n
    (subst (ArePicked n) (sym c.in_ok-numbers.ensures) (all_picked rows))))

pub returns-clause-out : goal.returns-clause-out
returns-clause-out c =
    let o = c.args.output.now in
    let rows = c.args.rows.now in
    let sorted = c.arrange.new.numbers.items in
    numbers_out o rows sorted
    (subst (λ l. IsArrangement (comes_before o) l (rows_at rows sorted))
    (ap (rows_at rows) c.in_ok-numbers.ensures ∙ all_rows rows)
    (rows_in_order rows o.is_descending o.order c.in_ok-numbers.numbers.items sorted
    c.in_ok-arrange.ensures))
    c.limit_to-2.new.numbers.items c.if-output.false c.limit_to-2.ensures
