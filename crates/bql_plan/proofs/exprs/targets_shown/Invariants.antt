use Rattle.std.proofs.Common.{◌≡◌, ◌++◌, drop, map}
use Rattle.bql_parser.specs.View.{target_of}
use Rattle.bql_types.specs.Keys.{lent_trees}
use Rattle.bql_types.specs.Typing.{target_tree}
use Rattle.bql_plan.proofs.exprs.targets_shown.Given as goal

-- what is there so far, with those that are left, is what is there in all
abbrev pub invariant-loop-target : goal.invariant-loop-target
invariant-loop-target l =
    lent_trees l.shown.items ++ map target_tree (map target_of (drop l.target-index l.targets))
    ≡ map target_tree (map target_of l.targets)
