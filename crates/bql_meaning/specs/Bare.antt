-- Expressions without the places of their parts.
use Rattle.std.specs.Prelude.{ℕ}
use Rattle.bql_tree.specs.Tree.{Tree, node, Trees, no_trees, trees}

abbrev mutual
  pub bare : Tree ℕ → Tree (Unit {0})
  bare (node at op parts) = node tt op (all_bare parts)

  pub all_bare : Trees ℕ → Trees (Unit {0})
  all_bare no_trees = no_trees
  all_bare (trees t ts) = trees (bare t) (all_bare ts)
