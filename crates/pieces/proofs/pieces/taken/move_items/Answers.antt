use Rattle.std.proofs.Common.{◌++◌, ◌∙◌, ◌+◌, ap, arith, refl, sym}
use Rattle.pieces.proofs.TakenFacts.{all_moved, none_left, one_left, one_moved}
use Rattle.pieces.proofs.pieces.taken.move_items.Goals as goal

pub loop-i-preserved : goal.loop-i-preserved
loop-i-preserved g c =
    let all = c.args.from.now in
    let i = c.loop-i.i in
    let item = c.in-Some.item in
    let rest = c.next.new.self in
    let next = sym c.loop-i.invariant.rest ∙ c.in-Some.ensures.some in record {
      moved = one_moved c.args.to.now c.loop-i.to c.push.new.self all i item rest next
          c.loop-i.invariant.moved c.in_ok-push-in-Some.ensures.pushed;
      rest = one_left all i item rest next;
    }

pub returns-in_err-push-in-Some-clause-behind : goal.returns-in_err-push-in-Some-clause-behind
returns-in_err-push-in-Some-clause-behind g c = (
  c.loop-i.i + 1,
  one_left c.args.from.now c.loop-i.i c.in-Some.item c.next.new.self
      (sym c.loop-i.invariant.rest ∙ c.in-Some.ensures.some),
)

pub returns-in-None-clause-moved : goal.returns-in-None-clause-moved
returns-in-None-clause-moved g c =
    let none = sym c.loop-i.invariant.rest ∙ (c.in-None.ensures.none refl).0 in
    c.loop-i.invariant.moved
    ∙ ap (λ l. c.args.to.now ++ l)
    (all_moved c.args.from.now c.loop-i.i c.args.count none (omega arith))

pub returns-in-None-clause-rest : goal.returns-in-None-clause-rest
returns-in-None-clause-rest g c =
    let none = sym c.loop-i.invariant.rest ∙ (c.in-None.ensures.none refl).0 in
    (c.in-None.ensures.none refl).1
    ∙ none_left c.args.from.now c.loop-i.i c.args.count none (omega arith)
