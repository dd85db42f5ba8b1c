-- Expressions that are the same have one shape.
use Rattle.std.proofs.Common.{◌≡◌, ◌≤◌, ◌<◌, ◌^◌, ℕ, Bool, true, false, ◌&&◌, ◌==◌, List, [], ◌∷◌}
use Rattle.std.proofs.Common.{◌++◌, map, Option, Some, None, refl, sym, ap, ◌∙◌, if◌then◌else◌}
use Rattle.std.proofs.lemmas.Bool.Decides.{Decides-int_eq, Decides-eqb}
use Rattle.std.proofs.lemmas.Slice.Eq.{slice_eq-Decides}
use Rattle.std.specs.Bool.{Decides}
use Rattle.std.specs.Coded.{le_prop}
use Rattle.std.specs.Int.RustNames.{unsigned_abs}
use Rattle.std.specs.Ordering.{int_eq}
use Rattle.std.specs.Prelude.{Ok, Err}
use mathlib.Core.HLevel.{is_prop→PathP}
use denote.Enum.Bare.{sameb, same_true}
use Rattle.bean_base.proofs.DayFacts.{same_day_Decides}
use Rattle.limits.specs.declared.bounds.Bounds.{Bounds}
use Rattle.bql_tree.specs.Tree.{Operation, leaf_of, one_of, two_of, call_of, Tree, node, Trees}
use Rattle.bql_tree.specs.Tree.{no_trees, trees}
use Rattle.bql_tree.specs.contracts.function.Function as functions
use Rattle.bql_tree.specs.contracts.tree.BinaryOperator as binaries
use Rattle.bql_tree.specs.contracts.tree.MetadataOwner as entries
use Rattle.bql_tree.specs.declared.tree.Leaf.{Leaf}
use Rattle.bql_tree.specs.declared.tree.Leaf.TheVariants as leaf
use Rattle.bql_tree.specs.declared.tree.UnaryOperator.{UnaryOperator}
use Rattle.bql_tree.specs.declared.tree.UnaryOperator.TheVariants as unary
use Rattle.query_terms.specs.contracts.column.Column as columns
use Rattle.query_rows.specs.Rules.{Ruled}
use Rattle.query_terms.specs.declared.decimal.Decimal.{Decimal}
use Rattle.bql_types.specs.Laws.{SameHaveOneShape, SameHaveCausesAlike, cause_kind}
use Rattle.bql_types.specs.Same.{same, all_same, same_operation, same_leaf, same_unary, same_text}
use Rattle.bql_types.specs.Same.{same_truth}
use Rattle.bql_types.specs.Shaped.{shape_of, shapes_of, ruled, given, beside, operand, is_null}
use Rattle.bql_types.specs.Shaped.{is_equation, shape_causes, all_shape_causes, misfit_at}
use Rattle.bql_types.specs.declared.cause.TypeCause.{TypeCause}
use Rattle.bql_types.specs.declared.cause.TypeCauseKind.{TypeCauseKind}

texts : (a b : List ℕ) → Decides (same_text a b) (a ≡ b)
texts a b = slice_eq-Decides Decides-eqb a b (same_text a b) refl

truths : (a b : Bool) → Decides (same_truth a b) (a ≡ b)
truths true true = (λ e. refl, λ e. refl)
truths true false = (λ e. sym e, λ e. sym e)
truths false true = (λ e. e, λ e. e)
truths false false = (λ e. refl, λ e. refl)

one_decimal : (m n : Decimal) → m.places ≡ n.places → m.count ≡ n.count → m ≡ n
one_decimal m n places count = λ i. record {
  count = count i;
  places = places i;
  narrow = is_prop→PathP (λ j. places j ≤ 32) (λ j. hlevel le_prop) m.narrow n.narrow i;
  in_range =
      is_prop→PathP (λ j. unsigned_abs (count j) < 2 ^ 127) (λ j. hlevel le_prop) m.in_range
      n.in_range i;
}

-- ---- operations

both : (a b : Bool) → (a && b) ≡ true → (a ≡ true) × (b ≡ true)
both true b e = (refl, e)
both false b e = cc

leaf_is : (l m : Leaf) → same_leaf l m ≡ true → l ≡ m
leaf_is (leaf.Column c) (leaf.Column d) e = ap leaf.Column (same_true columns.the_type tt c d e)
leaf_is leaf.Null leaf.Null e = refl
leaf_is (leaf.Number m) (leaf.Number n) e =
    let parts = both (m.places == n.places) (int_eq m.count n.count) e in
    ap leaf.Number (one_decimal m n ((Decides-eqb m.places n.places).0 parts.0)
    ((Decides-int_eq m.count n.count).0 parts.1))
leaf_is (leaf.TooWide a) (leaf.TooWide b) e = ap leaf.TooWide ((texts a b).0 e)
leaf_is (leaf.Text a) (leaf.Text b) e = ap leaf.Text ((texts a b).0 e)
leaf_is (leaf.Day d) (leaf.Day f) e = ap leaf.Day ((same_day_Decides d f).0 e)
leaf_is (leaf.Truth a) (leaf.Truth b) e = ap leaf.Truth ((truths a b).0 e)
leaf_is leaf.Rows leaf.Rows e = refl
leaf_is (leaf.Meta x k) (leaf.Meta y l) e =
    let parts = both (sameb entries.the_type x y) (same_text k l) e in
    λ i. leaf.Meta (same_true entries.the_type tt x y parts.0 i) ((texts k l).0 parts.1 i)
leaf_is (leaf.HasAccount a) (leaf.HasAccount b) e = ap leaf.HasAccount ((texts a b).0 e)
leaf_is l m e = cc

unary_is : (f g : UnaryOperator) → same_unary f g ≡ true → f ≡ g
unary_is unary.Not unary.Not e = refl
unary_is unary.Minus unary.Minus e = refl
unary_is (unary.Matches a) (unary.Matches b) e = ap unary.Matches ((texts a b).0 e)
unary_is (unary.Root m) (unary.Root n) e = ap unary.Root ((Decides-eqb m n).0 e)
unary_is f g e = cc

pub operation_is : (f g : Operation) → same_operation f g ≡ true → f ≡ g
operation_is (leaf_of l) (leaf_of m) e = ap leaf_of (leaf_is l m e)
operation_is (one_of f) (one_of g) e = ap one_of (unary_is f g e)
operation_is (two_of f) (two_of g) e = ap two_of (same_true binaries.the_type tt f g e)
operation_is (call_of f) (call_of g) e = ap call_of (same_true functions.the_type tt f g e)
operation_is f g e = cc

-- ---- shapes

null_at : (p q : ℕ) (op : Operation) (ts us : Trees ℕ) → all_same ts us ≡ true
    → is_null (node p op ts) ≡ is_null (node q op us)
null_at p q (leaf_of leaf.Null) no_trees no_trees e = refl
null_at p q (leaf_of leaf.Null) no_trees (trees u us) e = absurd cc
null_at p q (leaf_of leaf.Null) (trees t ts) no_trees e = absurd cc
null_at p q (leaf_of leaf.Null) (trees t ts) (trees u us) e = refl
null_at p q (leaf_of l) ts us e = refl
null_at p q op ts us e = refl

null_is : (t u : Tree ℕ) → same t u ≡ true → is_null t ≡ is_null u
null_is (node p f ts) (node q g us) e =
    let h = both (same_operation f g) (all_same ts us) e in
    ap (λ z. is_null (node p z ts)) (operation_is f g h.0) ∙ null_at p q g ts us h.1

mutual
  one_shape : (b : Bounds) (t u : Tree ℕ) → same t u ≡ true → shape_of b t ≡ shape_of b u
  one_shape b (node p f ts) (node q g us) e =
      let h = both (same_operation f g) (all_same ts us) e in
      ap (λ z. given (ruled b z (shapes_of b (is_equation z) ts))) (operation_is f g h.0)
      ∙ ap (λ z. given (ruled b g z)) (same_shapes b (is_equation g) ts us h.1)

  same_shapes : (b : Bounds) (eq : Bool) (ts us : Trees ℕ) → all_same ts us ≡ true
      → shapes_of b eq ts ≡ shapes_of b eq us
  same_shapes b eq no_trees no_trees e = refl
  same_shapes b eq (trees t ts) (trees u us) e =
      let h = both (same t u) (all_same ts us) e in
      λ i. beside (operand (eq && null_is t u h.0 i) (one_shape b t u h.0 i))
      (same_shapes b eq ts us h.1 i)
  same_shapes b eq ts us e = absurd cc

pub same_have_one_shape : SameHaveOneShape
same_have_one_shape b t u e = one_shape b t u e

-- ---- causes

abbrev kinds : List TypeCause → List TypeCauseKind
kinds cs = map cause_kind cs

kinds_behind : (cs ds : List TypeCause) → kinds (cs ++ ds) ≡ kinds cs ++ kinds ds
kinds_behind [] ds = refl
kinds_behind (c ∷ cs) ds = ap (λ z. cause_kind c ∷ z) (kinds_behind cs ds)

anywhere : (p q : ℕ) (r : Option Ruled) → kinds (misfit_at p r) ≡ kinds (misfit_at q r)
anywhere p q (Some (Err m)) = refl
anywhere p q (Some (Ok s)) = refl
anywhere p q None = refl

abbrev unless : Bool → List TypeCause → List TypeCause
unless skips cs = if skips then [] else cs

kinds_unless : (skips : Bool) (cs : List TypeCause)
    → kinds (unless skips cs) ≡ (if skips then [] else kinds cs)
kinds_unless true cs = refl
kinds_unless false cs = refl

mutual
  alike : (b : Bounds) (t u : Tree ℕ) → same t u ≡ true
      → kinds (shape_causes b t) ≡ kinds (shape_causes b u)
  alike b (node p f ts) (node q g us) e =
      let h = both (same_operation f g) (all_same ts us) e in
      let over = λ (z : Operation) (at : ℕ) (vs : Trees ℕ).
      misfit_at at (ruled b z (shapes_of b (is_equation z) vs)) in
      ap (λ z. kinds (all_shape_causes b (is_equation z) ts ++ over z p ts))
      (operation_is f g h.0)
      ∙ kinds_behind (all_shape_causes b (is_equation g) ts) (over g p ts)
      ∙ ap (λ z. z ++ kinds (over g p ts)) (all_alike b (is_equation g) ts us h.1)
      ∙ ap (λ z. kinds (all_shape_causes b (is_equation g) us) ++ kinds (misfit_at p (ruled b g z)))
      (same_shapes b (is_equation g) ts us h.1)
      ∙ ap (λ z. kinds (all_shape_causes b (is_equation g) us) ++ z)
      (anywhere p q (ruled b g (shapes_of b (is_equation g) us)))
      ∙ sym (kinds_behind (all_shape_causes b (is_equation g) us) (over g q us))

  all_alike : (b : Bounds) (eq : Bool) (ts us : Trees ℕ) → all_same ts us ≡ true
      → kinds (all_shape_causes b eq ts) ≡ kinds (all_shape_causes b eq us)
  all_alike b eq no_trees no_trees e = refl
  all_alike b eq (trees t ts) (trees u us) e =
      let h = both (same t u) (all_same ts us) e in
      kinds_behind (unless (eq && is_null t) (shape_causes b t)) (all_shape_causes b eq ts)
      ∙ ap (λ z. z ++ kinds (all_shape_causes b eq ts))
      (kinds_unless (eq && is_null t) (shape_causes b t))
      ∙ (λ i. (if eq && null_is t u h.0 i then [] else alike b t u h.0 i)
      ++ all_alike b eq ts us h.1 i)
      ∙ sym (ap (λ z. z ++ kinds (all_shape_causes b eq us))
      (kinds_unless (eq && is_null u) (shape_causes b u)))
      ∙ sym (kinds_behind (unless (eq && is_null u) (shape_causes b u))
      (all_shape_causes b eq us))
  all_alike b eq ts us e = absurd cc

pub same_have_causes_alike : SameHaveCausesAlike
same_have_causes_alike b t u e = alike b t u e
