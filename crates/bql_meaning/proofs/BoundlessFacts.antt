-- By whichever bounds an expression has a shape, it has the same value.
use Rattle.std.proofs.Common.{◌≡◌, ℕ, Bool, true, false, ◌&&◌, List, [], ◌∷◌, map, Option, Some}
use Rattle.std.proofs.Common.{None}
use Rattle.std.proofs.Common.{Ok, refl, sym, ap, subst, ◌∙◌, cond}
use Rattle.limits.specs.declared.bounds.Bounds.{Bounds}
use Rattle.bql_rules.specs.Rules.{summing}
use Rattle.bql_tree.specs.Tree.{Operation, leaf_of, one_of, two_of, call_of, Tree, node, Trees}
use Rattle.bql_tree.specs.Tree.{no_trees, trees}
use Rattle.bql_tree.specs.declared.function.Function.{Function}
use Rattle.bql_tree.specs.declared.function.Function.TheVariants as function
use Rattle.bql_tree.specs.declared.tree.Leaf.TheVariants as leaf
use Rattle.bql_types.specs.Shaped.{shape_of, shapes_of, ruled, given, rule, is_equation, beside}
use Rattle.bql_types.specs.Shaped.{operand, is_null}
use Rattle.bql_types.specs.Sought.{is_aggregate}
use Rattle.query_rows.proofs.OrderFacts.{reflexive}
use Rattle.query_rows.specs.Shape.{IsBelow}
use Rattle.query_rows.specs.declared.shape.Shape.{Shape}
use Rattle.query_values.specs.Aggregate.{aggregate_of}
use Rattle.bql_meaning.specs.Meaning.{value_of, values_of, applied, input_of}
use Rattle.bql_types.specs.Gathered.{aggregate_by, of_call, single}
use Rattle.bql_meaning.specs.Reading.{Reading}
use Rattle.bql_meaning.proofs.BoundFacts.{least, Gives, AllBelow, leaf_lesser, one_lesser}
use Rattle.bql_meaning.proofs.BoundFacts.{two_lesser, call_lesser, sum_below}
use Rattle.bql_meaning.proofs.ValueFacts.{first_shape, FromParts, from_parts}

-- ---- shapes

rule_lesser : (b : Bounds) (op : Operation) (us ss : List Shape) (s : Shape) → AllBelow us ss
    → rule b op ss ≡ Ok s → Gives (rule least op us) s
rule_lesser b (leaf_of l) [] [] s all e = leaf_lesser b l s e
rule_lesser b (leaf_of l) (u ∷ us) [] s all e = absurd all
rule_lesser b (leaf_of l) us (t ∷ ss) s all e = absurd cc
rule_lesser b (one_of op) us [] s all e = absurd cc
rule_lesser b (one_of op) [] (t ∷ []) s all e = absurd all
rule_lesser b (one_of op) (u ∷ []) (t ∷ []) s all e = one_lesser op u t s all.0 e
rule_lesser b (one_of op) (u ∷ v ∷ us) (t ∷ []) s all e = absurd all.1
rule_lesser b (one_of op) us (t ∷ x ∷ ss) s all e = absurd cc
rule_lesser b (two_of op) us [] s all e = absurd cc
rule_lesser b (two_of op) [] (t ∷ ss) s all e = absurd all
rule_lesser b (two_of op) (u ∷ []) (t ∷ []) s all e =
    record { given = s; is = e; below = reflexive s }
rule_lesser b (two_of op) (u ∷ v ∷ us) (t ∷ []) s all e = absurd all.1
rule_lesser b (two_of op) (u ∷ []) (t ∷ x ∷ ss) s all e = absurd all.1
rule_lesser b (two_of op) (u ∷ v ∷ []) (t ∷ x ∷ []) s all e =
    two_lesser op u v t x s all.0 all.1.0 e
rule_lesser b (two_of op) (u ∷ v ∷ w ∷ us) (t ∷ x ∷ []) s all e = absurd all.1.1
rule_lesser b (two_of op) us (t ∷ x ∷ y ∷ ss) s all e = absurd cc
rule_lesser b (call_of f) us ss s all e = call_lesser b f us ss s all e

-- the parts have lesser shapes by the least bounds
pub record AreLesser (eq : Bool) (ts : Trees ℕ) (ss : List Shape) : Type 0 where
  pub shapes : List Shape
  pub are : shapes_of least eq ts ≡ Some shapes
  pub below : AllBelow shapes ss

pub record IsLesser (t : Tree ℕ) (s : Shape) : Type 0 where
  pub shape : Shape
  pub is : shape_of least t ≡ Some shape
  pub below : IsBelow shape s

of_parts : (b : Bounds) (at : ℕ) (op : Operation) (parts : Trees ℕ) (s : Shape)
    → (o : Option (List Shape)) → shapes_of b (is_equation op) parts ≡ o → FromParts b op o s
    → ((ss : List Shape) → shapes_of b (is_equation op) parts ≡ Some ss
    → AreLesser (is_equation op) parts ss)
    → IsLesser (node at op parts) s
of_parts b at op parts s None is h all = absurd h
of_parts b at op parts s (Some ss) is h all =
    let l = all ss is in
    let g = rule_lesser b op l.shapes ss s l.below h in
    record {
      shape = g.given;
      is = ap (λ o. given (ruled least op o)) l.are ∙ ap (λ r. given (Some r)) g.is;
      below = g.below;
    }

-- a part that is a NULL beside an equation, and the others
pub null_part : (b : Bounds) (eq : Bool) (t : Tree ℕ) (ts : Trees ℕ) (ss : List Shape)
    → (eq && is_null t) ≡ true → shapes_of b eq (trees t ts) ≡ shapes_of b eq ts
null_part b eq t ts ss null =
    ap (λ z. beside (operand z (shape_of b t)) (shapes_of b eq ts)) null

pub shaped_part : (b : Bounds) (eq : Bool) (t : Tree ℕ) (ts : Trees ℕ) (ss : List Shape)
    → (eq && is_null t) ≡ false
    → shapes_of b eq (trees t ts) ≡ beside (operand false (shape_of b t)) (shapes_of b eq ts)
shaped_part b eq t ts ss other =
    ap (λ z. beside (operand z (shape_of b t)) (shapes_of b eq ts)) other

with_null : (eq : Bool) (t : Tree ℕ) (ts : Trees ℕ) (ss : List Shape) → (eq && is_null t) ≡ true
    → AreLesser eq ts ss → AreLesser eq (trees t ts) ss
with_null eq t ts ss null l = record {
  shapes = l.shapes;
  are = null_part least eq t ts ss null ∙ l.are;
  below = l.below;
}

with_shape : (eq : Bool) (t : Tree ℕ) (ts : Trees ℕ) (s : Shape) (ss others : List Shape)
    → (eq && is_null t) ≡ false → ss ≡ s ∷ others → IsLesser t s → AreLesser eq ts others
    → AreLesser eq (trees t ts) ss
with_shape eq t ts s ss others other is one rest = record {
  shapes = one.shape ∷ rest.shapes;
  are = shaped_part least eq t ts ss other
      ∙ (λ i. beside (operand false (one.is i)) (rest.are i));
  below = subst (AllBelow (one.shape ∷ rest.shapes)) (sym is) (one.below, rest.below);
}

mutual
  lesser : (b : Bounds) (t : Tree ℕ) (s : Shape) → shape_of b t ≡ Some s → IsLesser t s
  lesser b (node at op parts) s e =
      of_parts b at op parts s (shapes_of b (is_equation op) parts) refl
      (from_parts b op (shapes_of b (is_equation op) parts) s e)
      (λ ss is. all_lesser b (is_equation op) parts ss is)

  all_lesser : (b : Bounds) (eq : Bool) (ts : Trees ℕ) (ss : List Shape)
      → shapes_of b eq ts ≡ Some ss → AreLesser eq ts ss
  all_lesser b eq no_trees ss e = let is : [] ≡ ss = cc in
      record { shapes = []; are = refl; below = subst (AllBelow []) is tt }
  all_lesser b eq (trees t ts) ss e =
      by (eq && is_null t) refl (λ s is. lesser b t s is) (λ ss is. all_lesser b eq ts ss is)
    where
      by : (null : Bool) → (eq && is_null t) ≡ null
          → ((s : Shape) → shape_of b t ≡ Some s → IsLesser t s)
          → ((ss : List Shape) → shapes_of b eq ts ≡ Some ss → AreLesser eq ts ss)
          → AreLesser eq (trees t ts) ss
      by true null one rest =
          with_null eq t ts ss null (rest ss (sym (null_part b eq t ts ss null) ∙ e))
      by false other one rest =
          let h = first_shape (shape_of b t) (shapes_of b eq ts) ss
          (sym (shaped_part b eq t ts ss other) ∙ e) in
          with_shape eq t ts h.0 ss h.1 other h.4 (one h.0 h.2) (rest h.1 h.3)

-- ---- values

sums_same : (us ss : List Shape) → AllBelow us ss
    → summing (single (Some us)) ≡ summing (single (Some ss))
sums_same [] [] all = refl
sums_same [] (s ∷ ss) all = absurd all
sums_same (u ∷ us) [] all = absurd all
sums_same (u ∷ []) (s ∷ []) all = sum_below u s all.0
sums_same (u ∷ []) (s ∷ t ∷ ss) all = absurd all.1
sums_same (u ∷ v ∷ us) (s ∷ []) all = absurd all.1
sums_same (u ∷ v ∷ us) (s ∷ t ∷ ss) all = refl

calls_same : (f : Function) (us ss : List Shape) → AllBelow us ss
    → of_call f (Some us) ≡ of_call f (Some ss)
calls_same function.Sum us ss all = sums_same us ss all
calls_same f us ss all = refl

aggregates_same : (b : Bounds) (op : Operation) (parts : Trees ℕ) (ss : List Shape)
    → shapes_of b (is_equation op) parts ≡ Some ss
    → aggregate_by op (shapes_of b false parts) ≡ aggregate_by op (shapes_of least false parts)
aggregates_same b (leaf_of l) parts ss e = refl
aggregates_same b (one_of op) parts ss e = refl
aggregates_same b (two_of op) parts ss e = refl
aggregates_same b (call_of f) parts ss e =
    let l = all_lesser b false parts ss e in
    ap (of_call f) e ∙ sym (calls_same f l.shapes ss l.below) ∙ sym (ap (of_call f) l.are)

-- a NULL is null by any bounds
null_same : (b : Bounds) (t : Tree ℕ) → is_null t ≡ true → (rows : List Reading)
    → value_of b rows t ≡ value_of least rows t
null_same b (node at (leaf_of leaf.Null) no_trees) e rows = refl
null_same b (node at (leaf_of leaf.Null) (trees t ts)) e rows = absurd cc
null_same b (node at (leaf_of l) parts) e rows = absurd cc
null_same b (node at op parts) e rows = absurd cc

second : (a b : Bool) → (a && b) ≡ true → b ≡ true
second true b e = e
second false b e = absurd cc

abbrev HaveOneValue : Bounds → Trees ℕ → Type 0
HaveOneValue b ts = (rows : List Reading) → values_of b rows ts ≡ values_of least rows ts

of_values : (b : Bounds) (at : ℕ) (op : Operation) (parts : Trees ℕ) (s : Shape)
    → (o : Option (List Shape)) → shapes_of b (is_equation op) parts ≡ o → FromParts b op o s
    → ((ss : List Shape) → shapes_of b (is_equation op) parts ≡ Some ss → HaveOneValue b parts)
    → (rows : List Reading)
    → value_of b rows (node at op parts) ≡ value_of least rows (node at op parts)
of_values b at op parts s None is h all rows = absurd h
of_values b at op parts s (Some ss) is h all rows = λ i.
    cond (is_aggregate op)
    (aggregate_of (aggregates_same b op parts ss is i)
    (map (λ r. input_of (all ss is (r ∷ []) i)) rows))
    (applied op rows (all ss is rows i))

mutual
  value_same : (b : Bounds) (t : Tree ℕ) (s : Shape) → shape_of b t ≡ Some s
      → (rows : List Reading) → value_of b rows t ≡ value_of least rows t
  value_same b (node at op parts) s e =
      of_values b at op parts s (shapes_of b (is_equation op) parts) refl
      (from_parts b op (shapes_of b (is_equation op) parts) s e)
      (λ ss is. values_same b (is_equation op) parts ss is)

  values_same : (b : Bounds) (eq : Bool) (ts : Trees ℕ) (ss : List Shape)
      → shapes_of b eq ts ≡ Some ss → HaveOneValue b ts
  values_same b eq no_trees ss e rows = refl
  values_same b eq (trees t ts) ss e rows =
      by (eq && is_null t) refl (λ s is. value_same b t s is rows)
      (λ ss is. values_same b eq ts ss is rows)
    where
      by : (null : Bool) → (eq && is_null t) ≡ null
          → ((s : Shape) → shape_of b t ≡ Some s → value_of b rows t ≡ value_of least rows t)
          → ((ss : List Shape) → shapes_of b eq ts ≡ Some ss
          → values_of b rows ts ≡ values_of least rows ts)
          → values_of b rows (trees t ts) ≡ values_of least rows (trees t ts)
      by true null one rest = λ i.
          null_same b t (second eq (is_null t) null) rows i
          ∷ rest ss (sym (null_part b eq t ts ss null) ∙ e) i
      by false other one rest =
          let h = first_shape (shape_of b t) (shapes_of b eq ts) ss
          (sym (shaped_part b eq t ts ss other) ∙ e) in
          λ i. one h.0 h.2 i ∷ rest h.1 h.3 i

pub by_any_bounds : (b c : Bounds) (t : Tree ℕ) (s u : Shape) → shape_of b t ≡ Some s
    → shape_of c t ≡ Some u → (rows : List Reading) → value_of b rows t ≡ value_of c rows t
by_any_bounds b c t s u e d rows = value_same b t s e rows ∙ sym (value_same c t u d rows)
