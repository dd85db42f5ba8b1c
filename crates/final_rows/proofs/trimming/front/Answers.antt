use Rattle.std.proofs.Common.{length, subst, sym}
use Rattle.query_answer.specs.Rows.{ArePicked}
use Rattle.final_rows.proofs.EnoughFacts.{front_numbers}
use Rattle.final_rows.proofs.NumberFacts.{picked_in_order, picked_taken}
use Rattle.final_rows.proofs.trimming.front.Goals as goal

pub returns-clause-picked : goal.returns-clause-picked
returns-clause-picked c =
    let o = c.args.output.now in
    let rows = c.args.rows.now in
    let n = length rows in
    let sorted = c.arrange.new.numbers.items in
    subst (ArePicked n) (sym c.truncate.ensures.items)
    (picked_taken n c.args.most sorted
    (picked_in_order rows o.is_descending o.order c.in_ok-numbers.numbers.items sorted
    c.in_ok-arrange.ensures n c.in_ok-numbers.ensures.picked))

pub returns-clause-enough : goal.returns-clause-enough
returns-clause-enough c =
    front_numbers c.args.output.now c.args.most c.requires.enough c.args.rows.now
    c.in_ok-numbers.numbers.items c.arrange.new.numbers.items c.truncate.new.self.items
    c.in_ok-numbers.ensures.enough c.in_ok-arrange.ensures c.truncate.ensures.items
