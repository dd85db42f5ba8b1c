use Rattle.query_batch.proofs.RoundFacts.{all_rounds, round_next, stops}
use Rattle.query_batch.proofs.rounds.go_on.Goals as goal

pub loop-preserved : goal.loop-preserved
loop-preserved c =
    round_next c.loop.counter c.args.k c.args.batch.now c.loop.batch c.round.new.batch
    c.loop.invariant c.round.ensures.turned

pub returns-then-not-round : goal.returns-then-not-round
returns-then-not-round c =
    stops c.loop.counter c.args.most c.args.k c.args.batch.now c.loop.batch c.round.new.batch
    c.round.result c.loop.invariant c.round.ensures.turned c.round.ensures.goes
    c.if-not-round.true

pub returns : goal.returns
returns c =
    all_rounds c.loop.counter c.args.most c.args.k c.args.batch.now c.loop.batch
    c.loop.auto.counter-end c.loop-test.false c.loop.invariant
