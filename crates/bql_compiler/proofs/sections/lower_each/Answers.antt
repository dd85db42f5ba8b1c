use Rattle.bql_types.specs.Keys.{lent_trees}
use Rattle.bql_compiler.proofs.LowersFacts.{all_shaped, all_small}
use Rattle.bql_compiler.proofs.sections.lower_each.Goals as goal

pub lower_all-requires-clause-small : goal.lower_all-requires-clause-small
lower_all-requires-clause-small c =
    all_small c.args.scope.now.bounds (lent_trees c.args.exprs.now) c.requires.lowers

pub lower_all-requires-clause-shaped : goal.lower_all-requires-clause-shaped
lower_all-requires-clause-shaped c =
    all_shaped c.args.scope.now.bounds (lent_trees c.args.exprs.now) c.requires.lowers
