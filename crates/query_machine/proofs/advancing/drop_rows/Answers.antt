use Rattle.std.proofs.Common.{◌+◌, ◌-◌, arith}
use Rattle.query_runs.specs.Stands.{rows_in}
use Rattle.query_machine.proofs.Ends.{drops, rows_counted}
use Rattle.query_machine.proofs.advancing.drop_rows.Goals as goal

pub overflow_add-standing : goal.overflow_add-standing
overflow_add-standing c =
    let few = rows_counted c.args.input.now.parts.now (rows_in c.args.input.now)
    c.args.standing.now c.requires in
    let before = c.len-before.ensures in
    omega (arith, few, before)

pub returns-clause-under_way : goal.returns-clause-under_way
returns-clause-under_way c =
    let before = c.len-before.ensures in
    let left = c.len.ensures in
    let less = c.in_ok-trim.ensures.less in
    drops c.args.input.now.parts.now (rows_in c.args.input.now) c.args.standing.now c.requires
    c.trim.new.rows (c.args.standing.now.dropped + (c.len-before.result - c.len.result))
    c.in_ok-trim.ensures.enough (omega (arith, before, left, less))
