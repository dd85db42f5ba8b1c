use Rattle.std.proofs.Common.{arith}
use Rattle.query_batch.proofs.RoundFacts.{any_of_all, any_told, as_long, round_ends, takes_next}
use Rattle.query_batch.proofs.rounds.round.Goals as goal

pub turn_of-is_any_going-requires : goal.turn_of-is_any_going-requires
turn_of-is_any_going-requires c =
    let long = as_long c.loop-number.number c.args.k c.args.batch.now c.loop-number.batch
    c.loop-number.invariant.0 in
    omega (arith, c.len-number-end.ensures, c.loop-number-test.true, long)

pub loop-number-preserved : goal.loop-number-preserved
loop-number-preserved c = (
  takes_next c.loop-number.number c.args.k c.args.batch.now c.loop-number.batch
      c.turn_of-is_any_going.new.batch c.turn_of-is_any_going.result c.loop-number.invariant.0 c.turn_of-is_any_going.ensures,
  any_told c.loop-number.number c.args.k c.loop-number.batch c.turn_of-is_any_going.new.batch
      c.loop-number.is_any_going c.turn_of-is_any_going.result c.loop-number.invariant.1 c.turn_of-is_any_going.ensures,
)

pub returns-clause-turned : goal.returns-clause-turned
returns-clause-turned c =
    round_ends c.loop-number.number c.args.k c.args.batch.now c.loop-number.batch
    (omega (arith, c.len-number-end.ensures, c.loop-number-test.false, c.loop-number.auto.number-end))
    c.loop-number.invariant.0

pub returns-clause-goes : goal.returns-clause-goes
returns-clause-goes c =
    any_of_all c.loop-number.number c.args.k c.args.batch.now c.loop-number.batch
    c.loop-number.is_any_going
    (omega (arith, c.len-number-end.ensures, c.loop-number-test.false, c.loop-number.auto.number-end))
    c.loop-number.invariant.0 c.loop-number.invariant.1
