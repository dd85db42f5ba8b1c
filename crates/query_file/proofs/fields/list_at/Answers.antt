use Rattle.std.proofs.Common.{rules}
use Rattle.query_file.proofs.RowFacts.{begins, goes_on, ends, is_done, all_read}
use Rattle.query_file.proofs.fields.list_at.Goals as goal

pub loop-init : goal.loop-init
loop-init g c = rw c.new-items.ensures.items (begins g.T.Field.form c.args.len c.args.bytes.now)

pub returns-in_err-item-clause-read : goal.returns-in_err-item-clause-read
returns-in_err-item-clause-read g c =
    let stops =
    ends g.T.Field.form c.in_err-item.field-0.0 c.loop.items.items c.args.len c.loop.counter
    c.loop.rest.now c.args.bytes.now c.loop-test.true c.in_err-item.ensures c.loop.invariant in
    search (rules, stops)

pub loop-preserved : goal.loop-preserved
loop-preserved g c =
    rw c.in_ok-push.ensures.items
    (goes_on g.T.Field.form c.loop.items.items c.args.len c.loop.counter c.loop.rest.now
    c.in_ok-item.item c.in_ok-item.after.now c.args.bytes.now c.loop-test.true
    c.in_ok-item.ensures c.loop.invariant)

pub returns-clause-read : goal.returns-clause-read
returns-clause-read g c =
    rw c.new.ensures
    (is_done g.T.Field.form c.loop.items.items c.args.len c.loop.counter c.loop.rest.now
    c.args.bytes.now c.loop-test.false c.loop.invariant)

pub returns-clause-number : goal.returns-clause-number
returns-clause-number g c =
    rw c.new.ensures
    (all_read g.T.Field.form c.loop.items.items c.args.len c.loop.counter c.loop.rest.now
    c.args.bytes.now c.loop-test.false c.loop.invariant)
