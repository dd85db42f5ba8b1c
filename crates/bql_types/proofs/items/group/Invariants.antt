use Rattle.std.proofs.Common.{◌≡◌, List, drop, map}
use Rattle.bql_parser.specs.View.{item_of}
use Rattle.bql_parser.specs.Asked.{Target}
use Rattle.bql_types.specs.Cause.{told}
use Rattle.bql_types.specs.Named.{AreSeen}
use Rattle.bql_types.specs.Typing as rule
use Rattle.bql_types.proofs.items.group.Given as goal

-- what is found so far, with those that are left, is what is found in all
abbrev pub invariant-loop-item : goal.invariant-loop-item
invariant-loop-item l = (ts : List Target) → AreSeen l.bounds ts l.targets
    → told l.found (rule.each (rule.group_item_causes l.bounds ts)
    (map item_of (drop l.item-index l.items)))
    ≡ told l.initial.found (rule.each (rule.group_item_causes l.bounds ts) (map item_of l.items))
