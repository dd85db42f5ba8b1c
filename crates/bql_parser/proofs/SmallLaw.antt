-- A query keeps that it is small.
use Rattle.std.proofs.Common.{ℕ, List, [], ◌∷◌, length, Option, Some, None, IfSome}
use Rattle.std.proofs.Math.Bridge.{le_prop}
use Rattle.std.proofs.Math.Logic.{∥∥₁_elim}
use Rattle.std.proofs.Props.{props}
use Rattle.std.specs.List.{AllByRecursion}
use Rattle.bql_tree.specs.Tree.{Operation, leaf_of, one_of, two_of, call_of, Tree, node, Trees}
use Rattle.bql_tree.specs.Tree.{no_trees, trees}
use Rattle.bql_tree.specs.declared.function.Function.TheVariants as function
use Rattle.bql_tree.specs.declared.tree.Leaf.{Leaf}
use Rattle.bql_tree.specs.declared.tree.Leaf.TheVariants as leaf
use Rattle.bql_tree.specs.declared.tree.UnaryOperator.{UnaryOperator}
use Rattle.bql_tree.specs.declared.tree.UnaryOperator.TheVariants as unary
use Rattle.bql_parser.specs.Answer.{query_of}
use Rattle.bql_parser.specs.Asked.{Asked, Target, Item, ItemKind, target_item, tree_item}
use Rattle.bql_parser.specs.Small.{IsSmallLeaf, IsSmallUnary, IsSmallIn, IsSmallTree, AreSmallTrees}
use Rattle.bql_parser.specs.Small.{IsLiteralLeaf, IsLiteral, AreLiterals}
use Rattle.bql_parser.specs.Small.{IsSmallTarget, IsSmallKind, IsSmallItem, AreSmallItems, IsSmall}
use Rattle.bql_parser.specs.Kept.{QueriesAreSmall}

leaf_prop : (l : Leaf) → IsProp (IsSmallLeaf l)
leaf_prop (leaf.TooWide digits) = le_prop
leaf_prop (leaf.Text text) = le_prop
leaf_prop (leaf.Meta entry key) = le_prop
leaf_prop (leaf.HasAccount pattern) = le_prop
leaf_prop l = hlevel props

unary_prop : (op : UnaryOperator) → IsProp (IsSmallUnary op)
unary_prop (unary.Matches pattern) = le_prop
unary_prop (unary.Root n) = hlevel props
unary_prop op = hlevel props

literal_leaf_prop : (l : Leaf) → IsProp (IsLiteralLeaf l)
literal_leaf_prop (leaf.Column c) = hlevel props
literal_leaf_prop leaf.Rows = hlevel props
literal_leaf_prop (leaf.Meta entry key) = hlevel props
literal_leaf_prop (leaf.HasAccount pattern) = hlevel props
literal_leaf_prop l = hlevel props

literal_prop : (t : Tree ℕ) → IsProp (IsLiteral t)
literal_prop (node at (leaf_of l) parts) = literal_leaf_prop l
literal_prop (node at (one_of op) parts) = hlevel props
literal_prop (node at (two_of op) parts) = hlevel props
literal_prop (node at (call_of f) parts) = hlevel props

literals_prop : (ts : Trees ℕ) → IsProp (AreLiterals ts)
literals_prop no_trees = hlevel props
literals_prop (trees t ts) =
    let one = literal_prop t in let others = literals_prop ts in hlevel (props, one, others)

in_prop : (op : Operation) (ts : Trees ℕ) → IsProp (IsSmallIn op ts)
in_prop (leaf_of l) ts = leaf_prop l
in_prop (one_of op) ts = unary_prop op
in_prop (two_of op) ts = hlevel props
in_prop (call_of function.OneOf) no_trees = hlevel props
in_prop (call_of function.OneOf) (trees t members) =
    let literals = literals_prop members in hlevel (props, le_prop, literals)
in_prop (call_of f) ts = hlevel props

mutual
  tree_prop : (t : Tree ℕ) → IsProp (IsSmallTree t)
  tree_prop (node at op parts) =
      let one = in_prop op parts in let others = trees_prop parts in hlevel (props, one, others)

  trees_prop : (ts : Trees ℕ) → IsProp (AreSmallTrees ts)
  trees_prop no_trees = hlevel props
  trees_prop (trees t ts) =
      let one = tree_prop t in let others = trees_prop ts in hlevel (props, one, others)

some_prop : {X : Type 0} (P : X → Type 0) → ((x : X) → IsProp (P x)) → (o : Option X)
    → IsProp (IfSome o P)
some_prop P h (Some x) = h x
some_prop P h None = hlevel props

all_prop : {X : Type 0} (P : X → Type 0) → ((x : X) → IsProp (P x)) → (xs : List X)
    → IsProp (AllByRecursion P xs)
all_prop P h [] = hlevel props
all_prop P h (x ∷ xs) =
    let one = h x in let others = all_prop P h xs in hlevel (props, one, others)

target_prop : (t : Target) → IsProp (IsSmallTarget t)
target_prop t = let tree = tree_prop t.tree in hlevel (props, tree)

kind_prop : (n : ℕ) (k : ItemKind) → IsProp (IsSmallKind n k)
kind_prop n (target_item index) = le_prop
kind_prop n (tree_item t) = tree_prop t

items_prop : (n : ℕ) (is : List Item) → IsProp (AreSmallItems n is)
items_prop n is = λ x y i. record {
  few = le_prop x.few y.few i;
  all = all_prop (IsSmallItem n) (λ item. kind_prop n item.kind) is x.all y.all i;
}

small_prop : (s : Asked) → IsProp (IsSmall s)
small_prop s =
    let n = length s.targets in
    λ x y i. record {
      some = le_prop x.some y.some i;
      few = le_prop x.few y.few i;
      targets = all_prop IsSmallTarget target_prop s.targets x.targets y.targets i;
      from = some_prop IsSmallTree tree_prop s.filters.from x.from y.from i;
      filter = some_prop IsSmallTree tree_prop s.filters.filter x.filter y.filter i;
      group = some_prop (AreSmallItems n) (items_prop n) s.group x.group y.group i;
      order = items_prop n s.order.items x.order y.order i;
    }

pub queries_are_small : QueriesAreSmall
queries_are_small q = ∥∥₁_elim q.is_small (small_prop (query_of q)) (λ small. small)
