use Rattle.std.proofs.Common.{◌≡◌, take}
use Rattle.bql_tree.specs.Call.{greatest_height}
use Rattle.bql_tree.specs.Part.{parts_in}
use Rattle.bql_tree.proofs.call.greatest_height.Given as goal

abbrev pub invariant-loop-part : goal.invariant-loop-part
invariant-loop-part l = l.height ≡ greatest_height (parts_in (take l.part-index l.parts))
