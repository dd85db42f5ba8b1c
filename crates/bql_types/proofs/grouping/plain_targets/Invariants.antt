use Rattle.std.proofs.Common.{◌≡◌, ◌++◌, drop, map}
use Rattle.bql_parser.specs.View.{target_of}
use Rattle.bql_types.specs.Keys.{lent_trees}
use Rattle.bql_types.specs.Typing as rule
use Rattle.bql_types.proofs.grouping.plain_targets.Given as goal

-- what is found so far, with those that are left, is what is found in all
abbrev pub invariant-loop-target : goal.invariant-loop-target
invariant-loop-target l =
    lent_trees l.keys.items ++ rule.plain_targets (map target_of (drop l.target-index l.targets))
    ≡ rule.plain_targets (map target_of l.targets)
