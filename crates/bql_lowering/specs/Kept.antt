-- What the structs by which expressions are lowered stand for.
use Rattle.std.specs.Prelude.{◌≤◌, length}
use Rattle.limits.specs.declared.counts.TheConstants.{MOST_ITEMS}
use Rattle.bql_types.specs.Keys.{lent_trees}
use Rattle.bql_lowering.specs.Lowered as rule
use Rattle.bql_lowering.specs.declared.scope.Scope.{Scope}

abbrev pub gathered_of : Scope → rule.Gathered
gathered_of s = record {
  keys = lent_trees s.keys.now;
  aggregates = lent_trees s.aggregates.now;
}

-- each key and each aggregate has an index of one byte
pub record IsFew (s : Scope) : Type 0 where
  pub keys : length s.keys.now ≤ MOST_ITEMS
  pub aggregates : length s.aggregates.now ≤ MOST_ITEMS
