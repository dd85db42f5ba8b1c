use Rattle.std.proofs.Common.{◌≡◌, ◌++◌, ◌<◌, drop}
use Rattle.std.specs.List.{AllByRecursion}
use Rattle.bql_compiler.proofs.output.columns_of.Given as goal

-- what is there so far, with those that are left, is what is there in all
abbrev pub invariant-loop-column : goal.invariant-loop-column
invariant-loop-column l =
    AllByRecursion (λ i. i < 256) (drop l.column-index l.columns)
    × (l.list ++ drop l.column-index l.columns ≡ l.columns)
