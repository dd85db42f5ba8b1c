-- Expressions that are the same are so but for their places, and have the same value.
use Rattle.std.proofs.Common.{◌≡◌, ◌≤◌, ◌<◌, ◌^◌, ℕ, Bool, true, false, ◌&&◌, ◌==◌, List, []}
use Rattle.std.proofs.Common.{◌∷◌, map, refl, sym, ap, subst, ◌∙◌, cond}
use Rattle.std.proofs.lemmas.Bool.Decides.{Decides-int_eq, Decides-eqb}
use Rattle.std.proofs.lemmas.Slice.Eq.{slice_eq-Decides}
use Rattle.std.specs.Bool.{Decides}
use Rattle.std.specs.Coded.{le_prop}
use Rattle.std.specs.Int.RustNames.{unsigned_abs}
use Rattle.std.specs.Ordering.{int_eq}
use mathlib.Core.HLevel.{is_prop→PathP}
use denote.Enum.Bare.{sameb, same_true, true_same}
use Rattle.bean_base.proofs.DayFacts.{same_day_Decides}
use Rattle.limits.specs.declared.bounds.Bounds.{Bounds}
use Rattle.bql_tree.specs.Tree.{Operation, leaf_of, one_of, two_of, call_of, Tree, node, Trees}
use Rattle.bql_tree.specs.Tree.{no_trees, trees}
use Rattle.bql_tree.specs.contracts.function.Function as functions
use Rattle.bql_tree.specs.contracts.tree.BinaryOperator as binaries
use Rattle.bql_tree.specs.contracts.tree.MetadataOwner as entries
use Rattle.bql_tree.specs.declared.tree.Leaf.{Leaf}
use Rattle.bql_tree.specs.declared.tree.Leaf.TheVariants as leaf
use Rattle.bql_tree.specs.declared.tree.UnaryOperator.{UnaryOperator}
use Rattle.bql_tree.specs.declared.tree.UnaryOperator.TheVariants as unary
use Rattle.bql_types.specs.Same.{same, all_same, same_operation, same_leaf, same_unary, same_text}
use Rattle.bql_types.specs.Same.{same_truth}
use Rattle.bql_types.specs.Shaped.{shape_of, shapes_of, ruled, given, beside, operand, is_null}
use Rattle.bql_types.specs.Shaped.{is_equation}
use Rattle.bql_types.specs.Sought.{is_aggregate}
use Rattle.query_terms.specs.contracts.column.Column as columns
use Rattle.query_values.specs.Aggregate.{aggregate_of}
use Rattle.query_terms.specs.declared.decimal.Decimal.{Decimal}
use Rattle.bql_meaning.specs.Bare.{bare, all_bare}
use Rattle.bql_meaning.specs.Meaning.{value_of, values_of, applied, input_of}
use Rattle.bql_types.specs.Gathered.{aggregate_by}
use Rattle.bql_meaning.specs.Reading.{Reading}

texts : (a b : List ℕ) → Decides (same_text a b) (a ≡ b)
texts a b = slice_eq-Decides Decides-eqb a b (same_text a b) refl

truths : (a b : Bool) → Decides (same_truth a b) (a ≡ b)
truths true true = (λ e. refl, λ e. refl)
truths true false = (λ e. sym e, λ e. sym e)
truths false true = (λ e. e, λ e. e)
truths false false = (λ e. refl, λ e. refl)

one_decimal : (m n : Decimal) → m.places ≡ n.places → m.count ≡ n.count → m ≡ n
one_decimal m n places count = λ i. record {
  count = count i;
  places = places i;
  narrow = is_prop→PathP (λ j. places j ≤ 32) (λ j. hlevel le_prop) m.narrow n.narrow i;
  in_range =
      is_prop→PathP (λ j. unsigned_abs (count j) < 2 ^ 127) (λ j. hlevel le_prop) m.in_range
      n.in_range i;
}

-- ---- operations

both : (a b : Bool) → (a && b) ≡ true → (a ≡ true) × (b ≡ true)
both true b e = (refl, e)
both false b e = cc

leaf_self : (l : Leaf) → same_leaf l l ≡ true
leaf_self (leaf.Column c) = true_same columns.the_type c c refl
leaf_self leaf.Null = refl
leaf_self (leaf.Number n) =
    λ i. (Decides-eqb n.places n.places).1 refl i && (Decides-int_eq n.count n.count).1 refl i
leaf_self (leaf.TooWide t) = (texts t t).1 refl
leaf_self (leaf.Text t) = (texts t t).1 refl
leaf_self (leaf.Day d) = (same_day_Decides d d).1 refl
leaf_self (leaf.Truth b) = (truths b b).1 refl
leaf_self leaf.Rows = refl
leaf_self (leaf.Meta e k) = λ i. true_same entries.the_type e e refl i && (texts k k).1 refl i
leaf_self (leaf.HasAccount p) = (texts p p).1 refl

leaf_is : (l m : Leaf) → same_leaf l m ≡ true → l ≡ m
leaf_is (leaf.Column c) (leaf.Column d) e = ap leaf.Column (same_true columns.the_type tt c d e)
leaf_is leaf.Null leaf.Null e = refl
leaf_is (leaf.Number m) (leaf.Number n) e =
    let parts = both (m.places == n.places) (int_eq m.count n.count) e in
    ap leaf.Number (one_decimal m n ((Decides-eqb m.places n.places).0 parts.0)
    ((Decides-int_eq m.count n.count).0 parts.1))
leaf_is (leaf.TooWide a) (leaf.TooWide b) e = ap leaf.TooWide ((texts a b).0 e)
leaf_is (leaf.Text a) (leaf.Text b) e = ap leaf.Text ((texts a b).0 e)
leaf_is (leaf.Day d) (leaf.Day f) e = ap leaf.Day ((same_day_Decides d f).0 e)
leaf_is (leaf.Truth a) (leaf.Truth b) e = ap leaf.Truth ((truths a b).0 e)
leaf_is leaf.Rows leaf.Rows e = refl
leaf_is (leaf.Meta x k) (leaf.Meta y l) e =
    let parts = both (sameb entries.the_type x y) (same_text k l) e in
    λ i. leaf.Meta (same_true entries.the_type tt x y parts.0 i) ((texts k l).0 parts.1 i)
leaf_is (leaf.HasAccount a) (leaf.HasAccount b) e = ap leaf.HasAccount ((texts a b).0 e)
leaf_is l m e = cc

unary_self : (f : UnaryOperator) → same_unary f f ≡ true
unary_self unary.Not = refl
unary_self unary.Minus = refl
unary_self (unary.Matches t) = (texts t t).1 refl
unary_self (unary.Root n) = (Decides-eqb n n).1 refl

unary_is : (f g : UnaryOperator) → same_unary f g ≡ true → f ≡ g
unary_is unary.Not unary.Not e = refl
unary_is unary.Minus unary.Minus e = refl
unary_is (unary.Matches a) (unary.Matches b) e = ap unary.Matches ((texts a b).0 e)
unary_is (unary.Root m) (unary.Root n) e = ap unary.Root ((Decides-eqb m n).0 e)
unary_is f g e = cc

operation_self : (f : Operation) → same_operation f f ≡ true
operation_self (leaf_of l) = leaf_self l
operation_self (one_of f) = unary_self f
operation_self (two_of f) = true_same binaries.the_type f f refl
operation_self (call_of f) = true_same functions.the_type f f refl

operation_is : (f g : Operation) → same_operation f g ≡ true → f ≡ g
operation_is (leaf_of l) (leaf_of m) e = ap leaf_of (leaf_is l m e)
operation_is (one_of f) (one_of g) e = ap one_of (unary_is f g e)
operation_is (two_of f) (two_of g) e = ap two_of (same_true binaries.the_type tt f g e)
operation_is (call_of f) (call_of g) e = ap call_of (same_true functions.the_type tt f g e)
operation_is f g e = cc

-- ---- trees without places

mutual
  same_bare : (t u : Tree ℕ) → same t u ≡ true → bare t ≡ bare u
  same_bare (node p f ts) (node q g us) e =
      let parts = both (same_operation f g) (all_same ts us) e in
      λ i. node tt (operation_is f g parts.0 i) (all_same_bare ts us parts.1 i)

  all_same_bare : (ts us : Trees ℕ) → all_same ts us ≡ true → all_bare ts ≡ all_bare us
  all_same_bare no_trees no_trees e = refl
  all_same_bare (trees t ts) (trees u us) e =
      let parts = both (same t u) (all_same ts us) e in
      λ i. trees (same_bare t u parts.0 i) (all_same_bare ts us parts.1 i)
  all_same_bare ts us e = cc

mutual
  bare_same : (t u : Tree ℕ) → bare t ≡ bare u → same t u ≡ true
  bare_same (node p f ts) (node q g us) e =
      let op : f ≡ g = cc in
      let rest : all_bare ts ≡ all_bare us = cc in
      λ i. subst (λ h. same_operation f h ≡ true) op (operation_self f) i
      && all_bare_same ts us rest i

  all_bare_same : (ts us : Trees ℕ) → all_bare ts ≡ all_bare us → all_same ts us ≡ true
  all_bare_same no_trees no_trees e = refl
  all_bare_same (trees t ts) (trees u us) e =
      let first : bare t ≡ bare u = cc in
      let rest : all_bare ts ≡ all_bare us = cc in
      λ i. bare_same t u first i && all_bare_same ts us rest i
  all_bare_same ts us e = cc

pub same_are_bare : (t u : Tree ℕ) → Decides (same t u) (bare t ≡ bare u)
same_are_bare t u = (same_bare t u, bare_same t u)

-- ---- their values

-- at the first byte of the query
abbrev mutual
  placed : Tree (Unit {0}) → Tree ℕ
  placed (node at op parts) = node 0 op (all_placed parts)

  all_placed : Trees (Unit {0}) → Trees ℕ
  all_placed no_trees = no_trees
  all_placed (trees t ts) = trees (placed t) (all_placed ts)

null_kept : (t : Tree ℕ) → is_null (placed (bare t)) ≡ is_null t
null_kept (node at (leaf_of leaf.Null) no_trees) = refl
null_kept (node at (leaf_of leaf.Null) (trees t ts)) = refl
null_kept (node at (leaf_of l) parts) = refl
null_kept (node at op parts) = refl

mutual
  shape_kept : (b : Bounds) (t : Tree ℕ) → shape_of b (placed (bare t)) ≡ shape_of b t
  shape_kept b (node at op parts) =
      ap (λ ss. given (ruled b op ss)) (shapes_kept b (is_equation op) parts)

  shapes_kept : (b : Bounds) (eq : Bool) (ts : Trees ℕ)
      → shapes_of b eq (all_placed (all_bare ts)) ≡ shapes_of b eq ts
  shapes_kept b eq no_trees = refl
  shapes_kept b eq (trees t ts) =
      λ i. beside (operand (eq && null_kept t i) (shape_kept b t i)) (shapes_kept b eq ts i)

mutual
  value_kept : (b : Bounds) (t : Tree ℕ) (rows : List Reading)
      → value_of b rows (placed (bare t)) ≡ value_of b rows t
  value_kept b (node at op parts) rows = λ i.
      cond (is_aggregate op)
      (aggregate_of (aggregate_by op (shapes_kept b false parts i))
      (map (λ r. input_of (values_kept b parts (r ∷ []) i)) rows))
      (applied op rows (values_kept b parts rows i))

  values_kept : (b : Bounds) (ts : Trees ℕ) (rows : List Reading)
      → values_of b rows (all_placed (all_bare ts)) ≡ values_of b rows ts
  values_kept b no_trees rows = refl
  values_kept b (trees t ts) rows = λ i. value_kept b t rows i ∷ values_kept b ts rows i

pub have_one_value : (b : Bounds) (t u : Tree ℕ) → same t u ≡ true → (rows : List Reading)
    → value_of b rows t ≡ value_of b rows u
have_one_value b t u e rows =
    sym (value_kept b t rows)
    ∙ ap (λ z. value_of b rows (placed z)) (same_bare t u e)
    ∙ value_kept b u rows
