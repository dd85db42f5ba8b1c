use Rattle.std.proofs.Common.{◌-◌}
use Rattle.query_file.proofs.RowFacts.{IsOnTheWay}
use Rattle.query_file.proofs.fields.list_at.Given as goal

abbrev pub invariant-loop : goal.invariant-loop
invariant-loop g l =
    IsOnTheWay g.T.Field.form l.items.items (l.len - l.counter) l.rest l.len l.bytes
