use Rattle.std.proofs.Common.{◌≡◌, ◌++◌, drop, map}
use Rattle.bql_parser.specs.View.{target_of, item_of}
use Rattle.bql_types.specs.Keys.{lent_trees}
use Rattle.bql_types.specs.Typing as rule
use Rattle.bql_types.proofs.grouping.group_keys.Given as goal

-- what is found so far, with those that are left, is what is found in all
abbrev pub invariant-loop-item : goal.invariant-loop-item
invariant-loop-item l =
    lent_trees l.keys.items
    ++ rule.keys_of (map target_of l.targets) (map item_of (drop l.item-index l.items))
    ≡ rule.keys_of (map target_of l.targets) (map item_of l.items)
