use Rattle.std.proofs.Common.{Ok, Err, arith}
use Rattle.verify_programs.proofs.AnswerFacts.{ends, ends_amiss}
use Rattle.verify_programs.proofs.passing.pass.Goals as goal

pub returns-in-Ok : goal.returns-in-Ok
returns-in-Ok c =
    let past = c.loop-place-test.false in
    let most = c.loop-place.auto.place-end in
    ends c.args.pool.now c.args.loads.now c.args.code.now _ _ _ _ c.loop-place.place
    (omega (arith, past, most)) c.loop-place.invariant c.arrive.result c.arrive.ensures
    (Ok c.in-Ok.end) c.in-Ok.ensures

pub returns : goal.returns
returns c =
    let past = c.loop-place-test.false in
    let most = c.loop-place.auto.place-end in
    ends_amiss c.args.pool.now c.args.loads.now c.args.code.now _ c.in-Err.refusal
    (ends c.args.pool.now c.args.loads.now c.args.code.now _ _ _ _ c.loop-place.place
    (omega (arith, past, most)) c.loop-place.invariant c.arrive.result c.arrive.ensures
    (Err c.in-Err.refusal) c.in-Err.ensures)
