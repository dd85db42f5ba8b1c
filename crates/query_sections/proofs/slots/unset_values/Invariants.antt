use Rattle.std.proofs.Common.{◌≡◌, None, replicate}
use Rattle.query_sections.proofs.slots.unset_values.Given as goal

abbrev pub invariant-loop : goal.invariant-loop
invariant-loop l = l.values.items ≡ replicate l.counter None
