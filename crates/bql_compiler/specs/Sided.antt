-- Operators between two expressions stand between two.
use Rattle.std.specs.Prelude.{ℕ, ⊤}
use Rattle.bql_tree.specs.Tree.{Operation, two_of, Tree, node, Trees, no_trees, trees}

abbrev pub HasSides : Operation → Trees ℕ → Type 0
HasSides (two_of op) (trees t (trees u no_trees)) = ⊤
HasSides (two_of op) parts = ⊥
HasSides op parts = ⊤

abbrev mutual
  pub IsSided : Tree ℕ → Type 0
  IsSided (node at op parts) = HasSides op parts × AreSided parts

  pub AreSided : Trees ℕ → Type 0
  AreSided no_trees = ⊤
  AreSided (trees t ts) = IsSided t × AreSided ts
