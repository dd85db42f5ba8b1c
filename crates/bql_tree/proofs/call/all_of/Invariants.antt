use Rattle.std.proofs.Common.{◌≡◌}
use Rattle.bql_tree.specs.Call.{all_of}
use Rattle.bql_tree.specs.Part.{parts_in, trees_found}
use Rattle.bql_tree.proofs.call.all_of.Given as goal

abbrev pub invariant-loop-part : goal.invariant-loop-part
invariant-loop-part l = trees_found l.found ≡ all_of (parts_in l.yielded)
