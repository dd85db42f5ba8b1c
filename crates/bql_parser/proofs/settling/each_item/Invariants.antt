use Rattle.std.proofs.Common.{◌≡◌}
use Rattle.bql_tree.specs.Part.{parts_in}
use Rattle.bql_parser.specs.View.{items_of}
use Rattle.bql_grammar.specs.Read.{targets_in}
use Rattle.bql_parser.specs.Settled.{mapped, each_item}
use Rattle.bql_parser.proofs.settling.each_item.Given as goal

abbrev pub invariant-loop-part : goal.invariant-loop-part
invariant-loop-part l =
    mapped items_of l.found ≡ each_item (targets_in l.targets) (parts_in l.yielded)
