-- What a query asks: a SELECT, as it is written or as a JOURNAL or a BALANCES stands for it.
use Rattle.std.specs.Prelude.{ℕ, List}
use Rattle.bql_grammar.specs.Clause as clause
use Rattle.bql_tree.specs.Tree.{Tree}

pub record Target : Type 0 where
  pub name : List ℕ
  pub tree : Tree ℕ

-- a target of the query, by its index, or an expression
pub data ItemKind : Type 0 where
  target_item : ℕ → ItemKind
  tree_item : Tree ℕ → ItemKind

pub record Item : Type 0 where
  pub place : ℕ
  pub kind : ItemKind

abbrev pub Asked : Type 0
Asked = clause.Select Target (Tree ℕ) Item
