-- Slots, as their callers see them.
use Rattle.std.specs.Prelude.{List, replicate, Option, None}
use Rattle.limits.specs.declared.counts.TheConstants.{SLOTS}
use Rattle.query_values.specs.declared.value.Value.{Value}

-- what each slot holds: none where it is unset
abbrev pub SlotValues : Type 0
SlotValues = List (Option Value)

abbrev pub unset : SlotValues
unset = replicate SLOTS None
