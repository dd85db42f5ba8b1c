use Rattle.std.proofs.Common.{◌≡◌, ◌^◌, min, take}
use Rattle.bean_base.specs.Numeral.{count_of}
use Rattle.bql_tree.proofs.number.capped_count.Given as goal

abbrev pub invariant-loop-b : goal.invariant-loop-b
invariant-loop-b l = l.count ≡ min (2 ^ 127) (count_of (take l.b-index l.bytes))
