use Rattle.std.proofs.Common.{◌≡◌, drop}
use Rattle.bql_tree.specs.Tree.{trees_of}
use Rattle.bql_types.specs.Same.{all_same}
use Rattle.bql_types.proofs.same.+same.Given as goal

-- all are the same where those that are left are
abbrev pub invariant-same_all-loop-i : goal.invariant-same_all-loop-i
invariant-same_all-loop-i l =
    all_same (trees_of (drop l.i l.xs)) (trees_of (drop l.i l.ys))
    ≡ all_same (trees_of l.xs) (trees_of l.ys)
