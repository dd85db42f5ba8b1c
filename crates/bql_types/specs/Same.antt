-- Expressions that are the same, wherever they stand. Numbers are the same where their counts and
-- decimals are.
use Rattle.std.specs.Prelude.{ℕ, Bool, true, false, not, ◌==◌, ◌&&◌, List, nat_eq}
use Rattle.std.specs.Prelude.{if◌then◌else◌}
use Rattle.std.specs.Cmp.Lexicographic.{pointwise}
use Rattle.std.specs.Ordering.{int_eq}
use denote.Enum.Bare.{sameb}
use Rattle.bean_base.specs.Day.{number}
use Rattle.bql_tree.specs.Tree.{Operation, leaf_of, one_of, two_of, call_of, Tree, node, Trees}
use Rattle.bql_tree.specs.Tree.{no_trees, trees}
use Rattle.query_terms.specs.contracts.column.Column as columns
use Rattle.bql_tree.specs.contracts.function.Function as functions
use Rattle.bql_tree.specs.contracts.tree.BinaryOperator as binaries
use Rattle.bql_tree.specs.contracts.tree.MetadataOwner as entries
use Rattle.bql_tree.specs.declared.tree.Leaf.{Leaf}
use Rattle.bql_tree.specs.declared.tree.Leaf.TheVariants as leaf
use Rattle.bql_tree.specs.declared.tree.UnaryOperator.{UnaryOperator}
use Rattle.bql_tree.specs.declared.tree.UnaryOperator.TheVariants as unary

abbrev pub same_text : List ℕ → List ℕ → Bool
same_text a b = pointwise nat_eq a b

abbrev pub same_truth : Bool → Bool → Bool
same_truth a b = if a then b else not b

abbrev pub same_leaf : Leaf → Leaf → Bool
same_leaf (leaf.Column c) (leaf.Column d) = sameb columns.the_type c d
same_leaf leaf.Null leaf.Null = true
same_leaf (leaf.Number m) (leaf.Number n) = m.places == n.places && int_eq m.count n.count
same_leaf (leaf.TooWide a) (leaf.TooWide b) = same_text a b
same_leaf (leaf.Text a) (leaf.Text b) = same_text a b
same_leaf (leaf.Day d) (leaf.Day e) = int_eq (number d) (number e)
same_leaf (leaf.Truth a) (leaf.Truth b) = same_truth a b
same_leaf leaf.Rows leaf.Rows = true
same_leaf (leaf.Meta e k) (leaf.Meta f l) = sameb entries.the_type e f && same_text k l
same_leaf (leaf.HasAccount a) (leaf.HasAccount b) = same_text a b
same_leaf l m = false

abbrev pub same_unary : UnaryOperator → UnaryOperator → Bool
same_unary unary.Not unary.Not = true
same_unary unary.Minus unary.Minus = true
same_unary (unary.Matches a) (unary.Matches b) = same_text a b
same_unary (unary.Root m) (unary.Root n) = m == n
same_unary f g = false

abbrev pub same_operation : Operation → Operation → Bool
same_operation (leaf_of l) (leaf_of m) = same_leaf l m
same_operation (one_of f) (one_of g) = same_unary f g
same_operation (two_of f) (two_of g) = sameb binaries.the_type f g
same_operation (call_of f) (call_of g) = sameb functions.the_type f g
same_operation f g = false

-- the same operation over the same parts
abbrev mutual
  pub same : Tree ℕ → Tree ℕ → Bool
  same (node p f ts) (node q g us) = same_operation f g && all_same ts us

  pub all_same : Trees ℕ → Trees ℕ → Bool
  all_same no_trees no_trees = true
  all_same (trees t ts) (trees u us) = same t u && all_same ts us
  all_same ts us = false
