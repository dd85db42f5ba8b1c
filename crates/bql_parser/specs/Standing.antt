-- The SELECT that a JOURNAL or a BALANCES stands for. What isn't written of it is at the query's
-- first byte.
use Rattle.std.specs.Prelude.{ℕ, false, List, [], ◌∷◌, ◌++◌, codes, Option, Some, None}
use Rattle.bql_parser.specs.Asked.{Asked, Target, Item, ItemKind, target_item, tree_item}
use Rattle.bql_grammar.specs.Clause as clause
use Rattle.bql_parser.specs.declared.standing.Valuation.{Valuation}
use Rattle.bql_parser.specs.declared.standing.Valuation.TheVariants as valuation
use Rattle.query_terms.specs.Column.{name}
use Rattle.bql_tree.specs.Tree.{leaf_of, one_of, call_of, Tree, node, no_trees, trees}
use Rattle.query_terms.specs.declared.column.Column.{Column}
use Rattle.query_terms.specs.declared.column.Column.TheVariants as column
use Rattle.bql_tree.specs.declared.function.Function.{Function}
use Rattle.bql_tree.specs.declared.function.Function.TheVariants as function
use Rattle.bql_tree.specs.declared.tree.Leaf.TheVariants as leaf
use Rattle.bql_tree.specs.declared.tree.UnaryOperator.TheVariants as unary

abbrev pub of_column : Column → Tree ℕ
of_column c = node 0 (leaf_of (leaf.Column c)) no_trees

abbrev pub applied : Function → Tree ℕ → Tree ℕ
applied f t = node 0 (call_of f) (trees t no_trees)

-- what AT makes of it
abbrev pub valued : Option Valuation → Tree ℕ → Tree ℕ
valued None t = t
valued (Some valuation.Units) t = applied function.Units t
valued (Some valuation.Cost) t = applied function.Cost t

abbrev pub named : List ℕ → Tree ℕ → Target
named name t = record { name = name; tree = t }

abbrev pub matching : Option (List ℕ) → Option (Tree ℕ)
matching (Some pattern) =
    Some (node 0 (one_of (unary.Matches pattern)) (trees (of_column column.Account) no_trees))
matching None = None

-- a column under its own name
abbrev pub plain : Column → Target
plain c = named (name c) (of_column c)

abbrev pub item : ItemKind → Item
item kind = record { place = 0; kind = kind }

-- ---- JOURNAL

abbrev pub journal_heads : List Target
journal_heads = plain column.Date ∷ plain column.Flag ∷ plain column.Payee
    ∷ plain column.Narration ∷ plain column.Account ∷ []

abbrev pub journal_targets : Option Valuation → List Target
journal_targets at = journal_heads
    ++ named (codes "position") (valued at (of_column column.Position))
    ∷ named (codes "balance") (valued at (of_column column.Balance)) ∷ []

abbrev pub unordered : clause.Order Item
unordered = record { items = []; descending = false }

-- SELECT date, flag, payee, narration, account, f(position) AS position, f(balance) AS balance
-- FROM .. WHERE account ~ 'pattern'
abbrev pub journal : Option (List ℕ) → Option Valuation → Option (Tree ℕ) → Asked
journal pattern at from = record {
  distinct = false;
  targets = journal_targets at;
  filters = record { from = from; filter = matching pattern };
  group = None;
  order = unordered;
  limit = None;
}

-- ---- BALANCES

abbrev pub balances_targets : Option Valuation → List Target
balances_targets at = plain column.Account
    ∷ named (codes "balance") (applied function.Sum (valued at (of_column column.Position))) ∷ []

-- the first target
abbrev pub by_account : Item
by_account = item (target_item 0)

abbrev pub by_root : Item
by_root = item (tree_item (applied function.RootRank (of_column column.Account)))

abbrev pub by_root_and_account : clause.Order Item
by_root_and_account = record { items = by_root ∷ by_account ∷ []; descending = false }

-- SELECT account, SUM(f(position)) AS balance FROM .. WHERE ..
-- GROUP BY account ORDER BY ROOT_RANK(account), account
abbrev pub balances : Option Valuation → clause.Filters (Tree ℕ) → Asked
balances at filters = record {
  distinct = false;
  targets = balances_targets at;
  filters = filters;
  group = Some (by_account ∷ []);
  order = by_root_and_account;
  limit = None;
}
