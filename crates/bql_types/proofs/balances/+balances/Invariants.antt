use Rattle.std.proofs.Common.{◌≡◌, drop}
use Rattle.bql_tree.specs.Tree.{trees_of}
use Rattle.bql_types.specs.Cause.{told}
use Rattle.bql_types.specs.Sought.{all_balances}
use Rattle.bql_types.proofs.balances.+balances.Given as goal

-- what is found so far, with the arguments that are left, is what is found in all
abbrev pub invariant-all_balances-loop-e : goal.invariant-all_balances-loop-e
invariant-all_balances-loop-e l =
    told l.found (all_balances (trees_of (drop l.e-index l.es)))
    ≡ told l.initial.found (all_balances (trees_of l.es))
