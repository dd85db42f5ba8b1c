use Rattle.std.proofs.Common.{◌≡◌, ◌++◌, drop}
use Rattle.bql_tree.specs.Tree.{trees_of}
use Rattle.bql_lowering.specs.Lowered as rule
use Rattle.bql_lowering.proofs.lists.days_in.Given as goal

-- what is there so far, with those that are left, is what is there in all
abbrev pub invariant-loop-member : goal.invariant-loop-member
invariant-loop-member l =
    l.days ++ rule.each_in rule.day_in (trees_of (drop l.member-index l.members))
    ≡ rule.each_in rule.day_in (trees_of l.members)
