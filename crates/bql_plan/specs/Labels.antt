-- The shapes of an expression and of all its parts.
use Rattle.std.specs.Prelude.{ℕ, Option}
use Rattle.limits.specs.declared.bounds.Bounds.{Bounds}
use Rattle.bql_tree.specs.Tree.{Tree, node, Trees, no_trees, trees}
use Rattle.query_rows.specs.declared.shape.Shape.{Shape}
use Rattle.bql_types.specs.Shaped.{shape_of}

mutual
  pub data Label : Type 0 where
    label : Option Shape → Labels → Label

  pub data Labels : Type 0 where
    no_labels : Labels
    labels : Label → Labels → Labels

-- each part has the shape of its subtree, or none
abbrev mutual
  pub labelled : Bounds → Tree ℕ → Label
  labelled b (node at op parts) = label (shape_of b (node at op parts)) (all_labelled b parts)

  pub all_labelled : Bounds → Trees ℕ → Labels
  all_labelled b no_trees = no_labels
  all_labelled b (trees t ts) = labels (labelled b t) (all_labelled b ts)
