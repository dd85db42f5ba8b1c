use Rattle.std.proofs.Common.{◌≡◌, ◌++◌, drop}
use Rattle.bql_compiler.specs.Program as rule
use Rattle.bql_types.specs.Keys.{lent_trees}
use Rattle.bql_compiler.proofs.sections.keys_and_inputs.Given as goal

-- what is there so far, with those that are left, is what is there in all
abbrev pub invariant-loop-aggregate : goal.invariant-loop-aggregate
invariant-loop-aggregate l =
    lent_trees l.exprs.items
    ++ rule.inputs_in (lent_trees (drop l.aggregate-index l.aggregates))
    ≡ lent_trees l.keys ++ rule.inputs_in (lent_trees l.aggregates)
