-- Of which kind the members of a list are: that of the first.
use Rattle.std.specs.Prelude.{ℕ}
use Rattle.bql_tree.specs.Tree.{leaf_of, node, Trees, trees}
use Rattle.bql_tree.specs.declared.tree.Leaf.{Leaf}
use Rattle.bql_tree.specs.declared.tree.Leaf.TheVariants as leaf
use Rattle.bql_lowering.specs.declared.kind.ListKind.{ListKind}
use Rattle.bql_lowering.specs.declared.kind.ListKind.TheVariants.{Texts, Days, Numbers}

abbrev pub kind_of : Leaf → ListKind
kind_of (leaf.Text t) = Texts
kind_of (leaf.Day d) = Days
kind_of l = Numbers

abbrev pub first_leaf : Trees ℕ → Leaf
first_leaf (trees (node at (leaf_of l) parts) ts) = l
first_leaf ts = leaf.Null

abbrev pub first_kind : Trees ℕ → ListKind
first_kind ts = kind_of (first_leaf ts)
