-- What is read of an expression.
use Rattle.std.specs.Prelude.{ℕ, ◌+◌, max, Bool, true, false, ◌||◌, List, map, nat_lt, nat_le}
use Rattle.std.specs.Prelude.{Option, Some, None, Result, Ok, Err, if◌then◌else◌, Box, Vec}
use Rattle.std.specs.declared.alloc.Global.{Global}
use Rattle.limits.specs.declared.counts.TheConstants.{GREATEST_HEIGHT}
use Rattle.bql_lexer.specs.declared.token.Token.{Token}
use Rattle.bql_tree.specs.Cause.{outside_profile, unknown_name, least, both}
use Rattle.query_terms.specs.Column as columns
use Rattle.bql_tree.specs.Function.{is_left_out}
use Rattle.bql_tree.specs.Tree.{leaf_of, one_of, two_of, Tree, node, no_trees}
use Rattle.bql_tree.specs.Tree.{trees, tree_of}
use Rattle.bql_tree.specs.declared.cause.PartCause.{PartCause}
use Rattle.query_terms.specs.declared.column.Column.{Column}
use Rattle.bql_tree.specs.declared.function.Scope.{Scope}
use Rattle.bql_tree.specs.declared.function.Scope.TheVariants.{Transactions, Postings}
use Rattle.bql_tree.specs.declared.part.Alone.{Alone}
use Rattle.bql_tree.specs.declared.part.Alone.TheVariants.{No, Name, Number}
use Rattle.bql_tree.specs.declared.part.Part as parts
use Rattle.bql_tree.specs.declared.tree.BinaryOperator.{BinaryOperator}
use Rattle.bql_tree.specs.declared.tree.BinaryOperator.TheVariants as binary
use Rattle.bql_tree.specs.declared.tree.Expr.{Expr}
use Rattle.bql_tree.specs.declared.tree.Leaf as leaves
use Rattle.bql_tree.specs.declared.tree.Leaf.TheVariants as leaf_kind
use Rattle.bql_tree.specs.declared.tree.UnaryOperator as unaries
use Rattle.bql_tree.specs.declared.tree.UnaryOperator.TheVariants as unary

-- from where to where an expression stands, how high it is, whether it is one token, and its tree,
-- or else the least cause for which it is refused
pub record Part : Type 0 where
  pub start : ℕ
  pub end : ℕ
  pub height : ℕ
  pub alone : Alone
  pub tree : Result (Tree ℕ) PartCause

abbrev pub tree_found : Result (Box Expr Global) PartCause → Result (Tree ℕ) PartCause
tree_found (Ok e) = Ok (tree_of e.value)
tree_found (Err c) = Err c

abbrev pub pair_found : Result (Box Expr Global × Box Expr Global) PartCause
    → Result (Tree ℕ × Tree ℕ) PartCause
pair_found (Ok p) = Ok (tree_of p.0.value, tree_of p.1.value)
pair_found (Err c) = Err c

abbrev pub list_of_trees : List Expr → List (Tree ℕ)
list_of_trees es = map tree_of es

abbrev pub trees_found : Result (Vec Expr Global) PartCause → Result (List (Tree ℕ)) PartCause
trees_found (Ok v) = Ok (list_of_trees v.items)
trees_found (Err c) = Err c

abbrev pub part_of : parts.Part → Part
part_of p = record {
  start = p.start;
  end = p.end;
  height = p.height;
  alone = p.alone;
  tree =
      tree_found p.expr;
}

abbrev pub parts_in : List parts.Part → List Part
parts_in ps = map part_of ps

abbrev pub parts_of : Vec parts.Part Global → List Part
parts_of v = parts_in v.items

-- Heights.

-- of what stands around something; 201 is too high, and no more is told
abbrev pub above : ℕ → ℕ
above height = if nat_lt GREATEST_HEIGHT height then height else height + 1

abbrev pub too_high : {A : Type 0} → ℕ → Result A PartCause → Result A PartCause
too_high start (Ok a) = Err (outside_profile start)
too_high start (Err c) = Err (least c (outside_profile start))

-- an expression above the height of 200 is refused at its first byte
abbrev pub not_too_high : {A : Type 0} → ℕ → ℕ → Result A PartCause → Result A PartCause
not_too_high start height found = if nat_le height GREATEST_HEIGHT then found else too_high start found

-- NULL.

abbrev pub null_at : Tree ℕ → Option ℕ
null_at (node at (leaf_of leaf_kind.Null) ts) = Some at
null_at t = None

abbrev pub unless_null : Option ℕ → Tree ℕ → Result (Tree ℕ) PartCause
unless_null (Some at) t = Err (outside_profile at)
unless_null None t = Ok t

-- a NULL is refused at its own place
abbrev pub not_null : Result (Tree ℕ) PartCause → Result (Tree ℕ) PartCause
not_null (Ok t) = unless_null (null_at t) t
not_null (Err c) = Err c

abbrev pub with_nulls : Option ℕ → Option ℕ → Tree ℕ → Tree ℕ → Result (Tree ℕ × Tree ℕ) PartCause
with_nulls (Some at) (Some b) x y = Err (outside_profile at)
with_nulls a b x y = Ok (x, y)

-- not both sides of an equation may be NULL
abbrev pub equated : Result (Tree ℕ) PartCause → Result (Tree ℕ) PartCause → Result (Tree ℕ × Tree ℕ) PartCause
equated (Ok x) (Ok y) = with_nulls (null_at x) (null_at y) x y
equated a b = both a b

-- What stands for what.

abbrev pub alone_of : leaves.Leaf → Alone
alone_of (leaf_kind.Number n) = Number
alone_of (leaf_kind.TooWide bs) = Number
alone_of leaf = No

abbrev pub leaf_at : ℕ → leaves.Leaf → Tree ℕ
leaf_at at leaf = node at (leaf_of leaf) no_trees

abbrev pub leaf : Token → leaves.Leaf → Part
leaf t l = record {
  start = t.start;
  end = t.end;
  height = 1;
  alone = alone_of l;
  tree = Ok
      (leaf_at t.start l);
}

abbrev pub unknown : Token → PartCause
unknown t = if is_left_out t.text then outside_profile t.start else unknown_name t.start

abbrev pub is_everywhere : Scope → Bool
is_everywhere Postings = true
is_everywhere Transactions = false

abbrev pub column_in : Scope → Option Column → Option Column
column_in scope (Some c) = if is_everywhere scope || columns.is_of_transaction c then Some c else
    None
column_in scope None = None

-- FROM knows the columns of transactions alone
abbrev pub column : Scope → Token → Option Column
column scope t = column_in scope (columns.named t.text)

abbrev pub column_tree : Token → Option Column → Result (Tree ℕ) PartCause
column_tree t (Some c) = Ok (leaf_at t.start (leaf_kind.Column c))
column_tree t None = Err (unknown t)

abbrev pub name : Scope → Token → Part
name scope t = record {
  start = t.start;
  end = t.end;
  height = 1;
  alone = Name t.text;
  tree = column_tree t (column scope t);
}

-- COUNT(*)
abbrev pub rows : Token → Token → Part
rows name close = record {
  start = name.start;
  end = close.end;
  height = 1;
  alone = No;
  tree = Ok (leaf_at name.start leaf_kind.Rows);
}

-- what stands around an expression and changes nothing
abbrev pub around : ℕ → ℕ → Part → Part
around start end inner = record {
  start = start;
  end = end;
  height = above inner.height;
  alone = No;
  tree = not_too_high start (above inner.height) inner.tree;
}

abbrev pub group : Token → Part → Token → Part
group opening inner close = around opening.start close.end inner

abbrev pub one_tree : ℕ → unaries.UnaryOperator → Result (Tree ℕ) PartCause → Result (Tree ℕ) PartCause
one_tree at op (Ok x) = Ok (node at (one_of op) (trees x no_trees))
one_tree at op (Err c) = Err c

abbrev pub one : ℕ → ℕ → unaries.UnaryOperator → Part → Part
one start end op inner = record {
  start = start;
  end = end;
  height = above inner.height;
  alone = No;
  tree = one_tree start op (not_too_high start (above inner.height) (not_null inner.tree));
}

abbrev pub denied : Token → Part → Part
denied word inner = one word.start inner.end unary.Not inner

abbrev pub signed : Token → Bool → Part → Part
signed sign true inner = one sign.start inner.end unary.Minus inner
signed sign false inner = around sign.start inner.end inner

abbrev pub matched : Part → Token → Part
matched inner pattern = one inner.start pattern.end (unary.Matches pattern.text) inner

abbrev pub sides : BinaryOperator → Result (Tree ℕ) PartCause → Result (Tree ℕ) PartCause
    → Result (Tree ℕ × Tree ℕ) PartCause
sides binary.Equal a b = equated a b
sides binary.NotEqual a b = equated a b
sides op a b = both (not_null a) (not_null b)

abbrev pub two_tree : ℕ → BinaryOperator → Result (Tree ℕ × Tree ℕ) PartCause → Result (Tree ℕ) PartCause
two_tree at op (Ok p) = Ok (node at (two_of op) (trees p.0 (trees p.1 no_trees)))
two_tree at op (Err c) = Err c

abbrev pub two_high : ℕ → BinaryOperator → Part → Part → Part
two_high height op left right = record {
  start = left.start;
  end = right.end;
  height = height;
  alone = No;
  tree = two_tree left.start op (not_too_high left.start height (sides op left.tree right.tree));
}

abbrev pub two : BinaryOperator → Part → Part → Part
two op left right = two_high (above (max left.height right.height)) op left right
