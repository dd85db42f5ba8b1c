use Rattle.std.proofs.Common.{rules}
use Rattle.query_file.proofs.PassingFacts.{ends, is_done}
use Rattle.query_file.proofs.code_reading.behind_texts.Goals as goal

pub returns-in_err-after : goal.returns-in_err-after
returns-in_err-after c =
    let stops =
    ends c.in_err-after.field-0.0 c.args.len c.loop.counter c.loop.rest.now c.args.bytes.now
    c.loop-test.true c.in_err-after.ensures c.loop.invariant in
    search (rules, stops)

pub returns : goal.returns
returns c =
    is_done c.args.len c.loop.counter c.loop.rest.now c.args.bytes.now c.loop-test.false
    c.loop.invariant
