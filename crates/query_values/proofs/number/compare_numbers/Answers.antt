use Rattle.std.proofs.Common.{pos, ◌*ℤ◌, ◌^◌, ◌-◌, ap, ap₂, ◌∙◌}
use Rattle.std.proofs.lemmas.Int.{to_z-of_z}
use Rattle.std.specs.Int.{w128}
use Rattle.std.specs.Ordering.{int_cmp, ordering_reverse}
use Rattle.query_values.proofs.NumberFacts.{up, down}
use Rattle.query_values.proofs.number.compare_numbers.Goals as goal

pub returns-then-p-q : goal.returns-then-p-q
returns-then-p-q c =
    c.scaled_order.ensures
    ∙ ap₂ (λ m n. int_cmp (m *ℤ pos (10 ^ (c.args.q - c.args.p))) n)
    (to_z-of_z w128 c.args.m c.ranges.m) (to_z-of_z w128 c.args.n c.ranges.n)
    ∙ up c.args.p c.args.q c.args.m c.args.n c.if-p-q.true

pub returns-else-p-q : goal.returns-else-p-q
returns-else-p-q c =
    c.reverse.ensures ∙ ap ordering_reverse (c.scaled_order-else-p-q.ensures
    ∙ ap₂ (λ n m. int_cmp (n *ℤ pos (10 ^ (c.args.p - c.args.q))) m)
    (to_z-of_z w128 c.args.n c.ranges.n) (to_z-of_z w128 c.args.m c.ranges.m))
    ∙ down c.args.p c.args.q c.args.m c.args.n c.if-p-q.false
