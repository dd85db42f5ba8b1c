use Rattle.std.proofs.Common.{◌≡◌, drop}
use Rattle.bql_tree.specs.Tree.{trees_of}
use Rattle.bql_lowering.specs.Lowered as rule
use Rattle.bql_lowering.proofs.lists.most_places.Given as goal

-- the greatest so far, with those that are left, is that of all
abbrev pub invariant-loop-member : goal.invariant-loop-member
invariant-loop-member l =
    rule.most_places l.most (trees_of (drop l.member-index l.members))
    ≡ rule.most_places l.places (trees_of l.members)
