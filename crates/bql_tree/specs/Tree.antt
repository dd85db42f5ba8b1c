-- Expressions as trees: an operation and its parts, with a label at each.
use Rattle.std.specs.Prelude.{ℕ, List, [], ◌∷◌}
use Rattle.bql_tree.specs.declared.function.Function.{Function}
use Rattle.bql_tree.specs.declared.tree.Leaf.{Leaf}
use Rattle.bql_tree.specs.declared.tree.UnaryOperator.{UnaryOperator}
use Rattle.bql_tree.specs.declared.tree.BinaryOperator.{BinaryOperator}
use Rattle.bql_tree.specs.declared.tree.Expr.{Expr, Row_of-Expr, end_of-Expr, more_of-Expr}
use Rattle.bql_tree.specs.declared.tree.Expr.TheVariants as expr

pub data Operation : Type 0 where
  leaf_of : Leaf → Operation
  one_of : UnaryOperator → Operation
  two_of : BinaryOperator → Operation
  call_of : Function → Operation

mutual
  pub data Tree (A : Type 0) : Type 0 where
    node : A → Operation → Trees A → Tree A

  pub data Trees (A : Type 0) : Type 0 where
    no_trees : Trees A
    trees : Tree A → Trees A → Trees A

-- an expression as a tree, with the place of each part
abbrev mutual
  pub tree_of : Expr → Tree ℕ
  tree_of (expr.Leaf at op) = node at (leaf_of op) no_trees
  tree_of (expr.One' at op p x) = node at (one_of op) (trees (tree_of x) no_trees)
  tree_of (expr.Two' at op p x q y) = node at (two_of op) (trees (tree_of x)
      (trees (tree_of y) no_trees))
  tree_of (expr.Call' at f shape row) = node at (call_of f) (row_trees row)

  pub row_trees : {m : _} → Row_of-Expr m → Trees ℕ
  row_trees end_of-Expr = no_trees
  row_trees (more_of-Expr x rest) = trees (tree_of x) (row_trees rest)

abbrev pub trees_of : List Expr → Trees ℕ
trees_of [] = no_trees
trees_of (x ∷ xs) = trees (tree_of x) (trees_of xs)

abbrev pub all_trees : List (Tree ℕ) → Trees ℕ
all_trees [] = no_trees
all_trees (t ∷ ts) = trees t (all_trees ts)
