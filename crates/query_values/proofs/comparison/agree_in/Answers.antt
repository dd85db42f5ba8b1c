use Rattle.std.proofs.Common.{◌&&◌, sym, ap, ◌∙◌}
use Rattle.std.specs.List.{list_all}
use Rattle.query_values.specs.Equality.{agree_at}
use Rattle.query_values.proofs.comparison.agree_in.Goals as goal

pub returns-then-not-agree_at : goal.returns-then-not-agree_at
returns-then-not-agree_at c =
    let agree = agree_at c.args.a.now c.args.b.now in
    let n = c.in-Some.field-0-1 in
    let rest = c.next_held.new.self in
    let none = sym (c.agree_at.ensures n) ∙ c.if-not-agree_at.true in
    sym (ap (λ b. b && list_all agree rest) none) ∙ sym (ap (list_all agree) c.in-Some.ensures.some)
    ∙ c.loop-key.invariant

pub loop-key-preserved : goal.loop-key-preserved
loop-key-preserved c =
    let agree = agree_at c.args.a.now c.args.b.now in
    let n = c.in-Some.field-0-1 in
    let rest = c.next_held.new.self in
    let same = sym (c.agree_at.ensures n) ∙ c.if-not-agree_at.false in
    sym (ap (λ b. b && list_all agree rest) same) ∙ sym (ap (list_all agree) c.in-Some.ensures.some)
    ∙ c.loop-key.invariant
