use Rattle.std.proofs.Common.{◌-◌}
use Rattle.query_code.specs.QueryFile.{place_below}
use Rattle.query_file.proofs.RowFacts.{IsOnTheWay}
use Rattle.query_file.proofs.code_reading.order_at.Given as goal

abbrev pub invariant-loop : goal.invariant-loop
invariant-loop l =
    IsOnTheWay (place_below l.most) l.items.items (l.len - l.counter) l.rest l.len l.bytes
