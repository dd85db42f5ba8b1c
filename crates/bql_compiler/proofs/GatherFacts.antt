-- The shapes of expressions, and of what is gathered of each group.
use Rattle.std.proofs.Common.{◌≡◌, ℕ, zero, suc, Bool, true, false, cond, ◌||◌, List, [], ◌∷◌, ◌++◌}
use Rattle.std.proofs.Common.{map, length, Option, Some, None, Ok, Err, refl, sym, ap, ◌∙◌, subst}
use Rattle.std.proofs.Common.{arith, ◌≤◌, ◌*◌}
use Rattle.std.proofs.lemmas.Bool.{lt-ltb}
use Rattle.std.specs.Prelude.{◌==◌, option_and_then, slice_get, ⊤}
use Rattle.std.specs.List.{AllByRecursion}
use Rattle.limits.specs.declared.bounds.Bounds.{Bounds}
use Rattle.limits.specs.declared.bounds.Version.{Version}
use Rattle.limits.specs.declared.bounds.Version.TheVariants.{First, Second}
use Rattle.limits.specs.declared.counts.TheConstants.{COUNT_BOUND, MOST_POSTINGS}
use Rattle.limits.specs.Version.{most_postings}
use Rattle.bql_code.specs.Core.{Core, loading, changing, joining, both, either}
use Rattle.bql_plan.specs.Plan.{index_of}
use Rattle.bql_rules.specs.Rules as rules
use Rattle.bql_compiler.specs.Program.{inputs_in}
use Rattle.bql_tree.specs.Tree.{Operation, leaf_of, one_of, two_of, call_of, Tree, node, Trees}
use Rattle.bql_tree.specs.Tree.{no_trees, trees}
use Rattle.bql_tree.specs.declared.function.Function.{Function}
use Rattle.bql_tree.specs.declared.function.Function.TheVariants as function
use Rattle.bql_tree.specs.declared.tree.Leaf.{Leaf}
use Rattle.bql_tree.specs.declared.tree.Leaf.TheVariants as leaf
use Rattle.bql_types.proofs.OneShapeFacts.{same_have_one_shape}
use Rattle.bql_types.specs.Gathered.{aggregate_in, of_call}
use Rattle.bql_types.specs.Same.{same}
use Rattle.bql_types.specs.Shaped as shaped
use Rattle.bql_types.specs.Shaped.{beside, operand, ruled, shape_of, shapes_of}
use Rattle.bql_types.specs.Sought.{is_aggregate, is_aggregate_function, is_key}
use Rattle.bql_types.specs.Typing.{Grouping}
use Rattle.bql_compiler.specs.CoreShape.{HasShape, HaveShapes}
use Rattle.query_code.specs.declared.program.Constant.{Constant}
use Rattle.query_rows.specs.ColumnShape.{AreBounds}
use Rattle.query_rows.specs.Rules as machine
use Rattle.query_rows.specs.Rules.{Ruled, aggregate_shape, unary_shape}
use Rattle.query_rows.specs.Shape.{fitting}
use Rattle.query_rows.specs.declared.shape.Misfit.TheVariants.{Kind, TooWide}
use Rattle.query_rows.specs.declared.shape.Shape.{Shape}
use Rattle.query_rows.specs.declared.shape.Shape.TheVariants as shape
use Rattle.query_values.specs.Unary as operation
use Rattle.query_values.specs.declared.operation.Aggregate.{Aggregate}
use Rattle.query_values.specs.declared.operation.Aggregate.TheVariants as aggregate
use Rattle.plain_machine.specs.Pool.{operation_of}
use Rattle.bql_code.specs.Code.{change_of, load_of}
use Rattle.well_shaped.proofs.HeldFacts.{HeldIf, fits, of_binary, of_unary}
use Rattle.well_shaped.specs.Ends.{cons_if, gathered}
use Rattle.well_shaped.specs.Laws.{IsHeld}
use Rattle.well_shaped.specs.Sections.{Loads, given, loaded}
use Rattle.bql_compiler.proofs.QueryFacts.{IsAggregate, IsTypedTree, typed_shape}

-- ---- the shapes of some expressions

abbrev pub AreShapes : Bounds → List (Tree ℕ) → List Shape → Type 0
AreShapes b [] [] = ⊤
AreShapes b [] (s ∷ ss) = ⊥
AreShapes b (t ∷ ts) [] = ⊥
AreShapes b (t ∷ ts) (s ∷ ss) = (shape_of b t ≡ Some s) × AreShapes b ts ss

pub record HaveAll (b : Bounds) (ts : List (Tree ℕ)) : Type 0 where
  pub shapes : List Shape
  pub are : AreShapes b ts shapes

pub have_all : (b : Bounds) (ts : List (Tree ℕ)) → AllByRecursion (IsTypedTree b) ts
    → HaveAll b ts
have_all b [] h = record { shapes = []; are = tt }
have_all b (t ∷ ts) h =
    let s = typed_shape b t h.0 in
    let k = have_all b ts h.1 in
    record { shapes = s.0 ∷ k.shapes; are = (s.1, k.are) }

pub both_have : (b : Bounds) (ts us : List (Tree ℕ)) (ss rs : List Shape) → AreShapes b ts ss
    → AreShapes b us rs → AreShapes b (ts ++ us) (ss ++ rs)
both_have b [] us [] rs h k = k
both_have b [] us (s ∷ ss) rs h k = absurd h
both_have b (t ∷ ts) us [] rs h k = absurd h
both_have b (t ∷ ts) us (s ∷ ss) rs h k = (h.0, both_have b ts us ss rs h.1 k)

pub as_many : (b : Bounds) (ts : List (Tree ℕ)) (ss : List Shape) → AreShapes b ts ss
    → length ss ≡ length ts
as_many b [] [] h = refl
as_many b [] (s ∷ ss) h = absurd h
as_many b (t ∷ ts) [] h = absurd h
as_many b (t ∷ ts) (s ∷ ss) h = ap suc (as_many b ts ss h.1)

pub shape_at : (b : Bounds) (ts : List (Tree ℕ)) (ss : List Shape) (i : ℕ) (t : Tree ℕ)
    → AreShapes b ts ss → slice_get ts i ≡ Some t → slice_get ss i ≡ shape_of b t
shape_at b [] ss i t h e = absurd cc
shape_at b (u ∷ ts) [] i t h e = absurd h
shape_at b (u ∷ ts) (s ∷ ss) zero t h e = sym h.0 ∙ ap (shape_of b) (sym (is u t e))
  where
    is : (u t : Tree ℕ) → Some u ≡ Some t → t ≡ u
    is u t e = cc
shape_at b (u ∷ ts) (s ∷ ss) (suc i) t h e = shape_at b ts ss i t h.1 e

-- ---- what can be held

held_if : (r : Ruled) (s : Shape) → HeldIf r → given r ≡ Some s → IsHeld s
held_if (Ok t) s h e = subst IsHeld (is t s e) h
  where
    is : (t s : Shape) → Some t ≡ Some s → t ≡ s
    is t s e = cc
held_if (Err f) s h e = absurd cc

held_unary : (o : Option operation.Unary) (a s : Shape)
    → option_and_then (λ op. given (unary_shape op a)) o ≡ Some s → IsHeld s
held_unary None a s e = absurd cc
held_unary (Some op) a s e = held_if (unary_shape op a) s (of_unary op a) e

held_push : (o : Option Shape) (s : Shape)
    → option_and_then (λ s. given (fitting s)) o ≡ Some s → IsHeld s
held_push None s e = absurd cc
held_push (Some t) s e = held_if (fitting t) s (fits t) e

held_core : (pool : List Constant) (l : Loads) (x : Core) (s : Shape) → HasShape pool l x s
    → IsHeld s
held_core pool l (loading op) s h = held_push (loaded pool l (load_of pool op)) s h
held_core pool l (changing op x) s h =
    held_unary (operation_of pool (change_of pool op)) h.0 s h.2
held_core pool l (joining op x y) s h =
    held_if (machine.binary_shape op h.0 h.1) s (of_binary op h.0 h.1) h.4
held_core pool l (both x y) s h = subst IsHeld (sym h.2) refl
held_core pool l (either x y) s h = subst IsHeld (sym h.2) refl

pub all_held : (pool : List Constant) (l : Loads) (xs : List Core) (ss : List Shape)
    → HaveShapes pool l xs ss → AllByRecursion IsHeld ss
all_held pool l [] [] h = tt
all_held pool l [] (s ∷ ss) h = absurd h
all_held pool l (x ∷ xs) [] h = absurd h
all_held pool l (x ∷ xs) (s ∷ ss) h =
    (held_core pool l x s h.0, all_held pool l xs ss h.1)

held_fits : (s : Shape) → IsHeld s → given (fitting s) ≡ Some s
held_fits s h = ap (λ is. given (cond is (Ok s) (Err TooWide))) h

-- what is the same as one of some expressions is loaded with its shape
pub loaded_by : (b : Bounds) (ts : List (Tree ℕ)) (ss : List Shape) → AreShapes b ts ss
    → AllByRecursion IsHeld ss → (t : Tree ℕ) (s : Shape) → is_key ts t ≡ true
    → shape_of b t ≡ Some s
    → option_and_then (λ s. given (fitting s)) (slice_get ss (index_of ts t)) ≡ Some s
loaded_by b [] ss h held t s is e = absurd cc
loaded_by b (u ∷ ts) [] h held t s is e = absurd h
loaded_by b (u ∷ ts) (r ∷ ss) h held t s is e =
    by (same t u) refl is (λ k. loaded_by b ts ss h.1 held.1 t s k e)
  where
    by : (k : Bool) → same t u ≡ k → (k || is_key ts t) ≡ true
        → (is_key ts t ≡ true
        → option_and_then (λ s. given (fitting s)) (slice_get ss (index_of ts t)) ≡ Some s)
        → option_and_then (λ s. given (fitting s))
        (slice_get (r ∷ ss) (cond k 0 (suc (index_of ts t)))) ≡ Some s
    by true same_is any behind =
        held_fits r held.0
        ∙ (sym h.0 ∙ sym (same_have_one_shape b t u same_is) ∙ e)
    by false same_is any behind = behind any

-- ---- what is gathered over values of a shape can be held

of_summed : (n q : ℕ) (s : Shape) → HeldIf (machine.summed n q s)
of_summed n q (shape.Number p m) = by (p == q)
  where
    by : (is : Bool) → HeldIf (cond is (fitting (shape.Number p (n * m))) (Err Kind))
    by true = fits (shape.Number p (n * m))
    by false = tt
of_summed n q s = tt

of_collected : (n q : ℕ) (s : Shape) → HeldIf (machine.gathered n q s)
of_collected n q (shape.Amount p m) = by (p == q)
  where
    by : (is : Bool) → HeldIf (cond is (fitting (shape.Inventory p (n * m) 0)) (Err Kind))
    by true = fits (shape.Inventory p (n * m) 0)
    by false = tt
of_collected n q (shape.Position u v) = by (8 == q)
  where
    by : (is : Bool) → HeldIf (cond is (fitting (shape.Inventory 8 (n * u) (n * v))) (Err Kind))
    by true = fits (shape.Inventory 8 (n * u) (n * v))
    by false = tt
of_collected n q s = tt

of_ranked : (s : Shape) → HeldIf (machine.ranked s)
of_ranked s = by (machine.is_ranked s)
  where
    by : (is : Bool) → HeldIf (cond is (fitting s) (Err Kind))
    by true = fits s
    by false = tt

of_values : (n : ℕ) (a : Aggregate) (s : Shape) → HeldIf (aggregate_shape n a (Some s))
of_values n aggregate.CountRows s = tt
of_values n aggregate.Count s = fits (machine.whole n)
of_values n (aggregate.Sum places) s = of_summed n places s
of_values n (aggregate.SumInventory places) s = of_collected n places s
of_values n aggregate.First s = fits s
of_values n aggregate.Last s = fits s
of_values n aggregate.Min s = of_ranked s
of_values n aggregate.Max s = of_ranked s

few_postings : (v : Version) → most_postings v ≤ MOST_POSTINGS
few_postings First = omega arith
few_postings Second = omega arith

-- how many rows there may be
rows_held : (b : Bounds) → AreBounds b → IsHeld (machine.whole b.postings)
rows_held b bounds =
    let few = few_postings b.schema in
    lt-ltb b.postings COUNT_BOUND (omega (arith, few, bounds.postings))

-- ---- the aggregates of a group

is_some_of : (s t : Shape) → Some s ≡ Some t → s ≡ t
is_some_of s t e = cc

ok_of : (r : Ruled) (s : Shape) → shaped.given (Some r) ≡ Some s → r ≡ Ok s
ok_of (Ok t) s e = ap Ok (is_some_of t s e)
ok_of (Err f) s e = absurd cc

-- the part of an aggregate that is a call, and what is gathered of it
record HasPart (b : Bounds) (f : Function) (parts : Trees ℕ) (s : Shape) : Type 0 where
  part : Tree ℕ
  one : parts ≡ trees part no_trees
  input : Shape
  is : shape_of b part ≡ Some input
  gives : rules.of_one b.postings f input ≡ Ok s

of_single : (b : Bounds) (f : Function) (ss : List Shape) → is_aggregate_function f ≡ true
    → rules.call_shape b f ss ≡ rules.single b.postings f ss
of_single b function.OneOf ss e = absurd cc
of_single b f ss e = refl

has_part : (b : Bounds) (f : Function) (parts : Trees ℕ) (s : Shape)
    → is_aggregate_function f ≡ true
    → shaped.given (ruled b (call_of f) (shapes_of b false parts)) ≡ Some s
    → HasPart b f parts s
has_part b f no_trees s is e =
    absurd (none (sym (of_single b f [] is) ∙ ok_of (rules.call_shape b f []) s e))
  where
    none : rules.single b.postings f [] ≡ Ok s → ⊥
    none e = cc
has_part b f (trees t no_trees) s is e = by (shape_of b t) refl e
  where
    by : (o : Option Shape) → shape_of b t ≡ o
        → shaped.given (ruled b (call_of f) (beside (operand false o) (Some []))) ≡ Some s
        → HasPart b f (trees t no_trees) s
    by None eo e = absurd cc
    by (Some x) eo e = record {
      part = t;
      one = refl;
      input = x;
      is = eo;
      gives =
          sym (of_single b f (x ∷ []) is) ∙ ok_of (rules.call_shape b f (x ∷ [])) s e;
    }
has_part b f (trees t (trees u us)) s is e =
    by (shape_of b t) (shape_of b u) (shapes_of b false us) e
  where
    none : (x y : Shape) (xs : List Shape) → rules.single b.postings f (x ∷ y ∷ xs) ≡ Ok s → ⊥
    none x y xs e = cc

    by : (o p : Option Shape) (q : Option (List Shape))
        → shaped.given (ruled b (call_of f)
        (beside (operand false o) (beside (operand false p) q))) ≡ Some s
        → HasPart b f (trees t (trees u us)) s
    by None p q e = absurd cc
    by (Some x) None q e = absurd cc
    by (Some x) (Some y) None e = absurd cc
    by (Some x) (Some y) (Some xs) e =
        absurd (none x y xs (sym (of_single b f (x ∷ y ∷ xs) is)
        ∙ ok_of (rules.call_shape b f (x ∷ y ∷ xs)) s e))

gathers_values : (n : ℕ) (f : Function) (x s : Shape) → is_aggregate_function f ≡ true
    → rules.of_one n f x ≡ Ok s → aggregate_shape n (of_call f (Some (x ∷ []))) (Some x) ≡ Ok s
gathers_values n function.Count x s is e = e
gathers_values n function.Sum x s is e = e
gathers_values n function.First x s is e = e
gathers_values n function.Last x s is e = e
gathers_values n function.Min x s is e = e
gathers_values n function.Max x s is e = e
gathers_values n f x s is e = absurd cc

-- the inputs of some aggregates, and what is gathered of them
pub record Gathers (b : Bounds) (ts : List (Tree ℕ)) : Type 0 where
  pub inputs : List Shape
  pub of_inputs : AreShapes b (inputs_in ts) inputs
  pub totals : List Shape
  pub of_totals : AreShapes b ts totals
  pub held : AllByRecursion IsHeld totals
  pub gather : gathered b.postings (map (aggregate_in b) ts) inputs ≡ Some totals

one_of_rows : (b : Bounds) → AreBounds b → (inputs totals : List Shape) (list : List Aggregate)
    → gathered b.postings list inputs ≡ Some totals
    → gathered b.postings (aggregate.CountRows ∷ list) inputs
    ≡ Some (machine.whole b.postings ∷ totals)
one_of_rows b bounds inputs totals list e =
    ap (λ o. cons_if o (gathered b.postings list inputs))
    (held_fits (machine.whole b.postings) (rows_held b bounds))
    ∙ ap (cons_if (Some (machine.whole b.postings))) e

one_of_values : (n : ℕ) (a : Aggregate) (x s : Shape) (inputs totals : List Shape)
    (list : List Aggregate) → aggregate_shape n a (Some x) ≡ Ok s
    → gathered n list inputs ≡ Some totals
    → gathered n (a ∷ list) (x ∷ inputs) ≡ Some (s ∷ totals)
one_of_values n aggregate.CountRows x s inputs totals list is e = absurd cc
one_of_values n aggregate.Count x s inputs totals list is e =
    ap (λ r. cons_if (given r) (gathered n list inputs)) is ∙ ap (cons_if (Some s)) e
one_of_values n (aggregate.Sum p) x s inputs totals list is e =
    ap (λ r. cons_if (given r) (gathered n list inputs)) is ∙ ap (cons_if (Some s)) e
one_of_values n (aggregate.SumInventory p) x s inputs totals list is e =
    ap (λ r. cons_if (given r) (gathered n list inputs)) is ∙ ap (cons_if (Some s)) e
one_of_values n aggregate.First x s inputs totals list is e =
    ap (λ r. cons_if (given r) (gathered n list inputs)) is ∙ ap (cons_if (Some s)) e
one_of_values n aggregate.Last x s inputs totals list is e =
    ap (λ r. cons_if (given r) (gathered n list inputs)) is ∙ ap (cons_if (Some s)) e
one_of_values n aggregate.Min x s inputs totals list is e =
    ap (λ r. cons_if (given r) (gathered n list inputs)) is ∙ ap (cons_if (Some s)) e
one_of_values n aggregate.Max x s inputs totals list is e =
    ap (λ r. cons_if (given r) (gathered n list inputs)) is ∙ ap (cons_if (Some s)) e

-- a leaf that has a shape has no parts
no_parts : (b : Bounds) (l : Leaf) (parts : Trees ℕ) (s : Shape)
    → shaped.given (ruled b (leaf_of l) (shapes_of b false parts)) ≡ Some s → parts ≡ no_trees
no_parts b l no_trees s e = refl
no_parts b l (trees t ts) s e = absurd (by (shape_of b t) (shapes_of b false ts) e)
  where
    by : (o : Option Shape) (p : Option (List Shape))
        → shaped.given (ruled b (leaf_of l) (beside (operand false o) p)) ≡ Some s → ⊥
    by None p e = cc
    by (Some x) None e = cc
    by (Some x) (Some xs) e = cc

one_rows : (b : Bounds) → AreBounds b → (at : ℕ) (parts : Trees ℕ) (ts : List (Tree ℕ)) (s : Shape)
    → parts ≡ no_trees → shape_of b (node at (leaf_of leaf.Rows) parts) ≡ Some s → Gathers b ts
    → Gathers b (node at (leaf_of leaf.Rows) parts ∷ ts)
one_rows b bounds at (trees t us) ts s none e more = absurd cc
one_rows b bounds at no_trees ts s none e more = record {
  inputs = more.inputs;
  of_inputs = more.of_inputs;
  totals = machine.whole b.postings ∷ more.totals;
  of_totals = (refl, more.of_totals);
  held = (rows_held b bounds, more.held);
  gather =
      one_of_rows b bounds more.inputs more.totals (map (aggregate_in b) ts) more.gather;
}

one_call : (b : Bounds) (at : ℕ) (f : Function) (parts : Trees ℕ) (ts : List (Tree ℕ)) (s : Shape)
    → is_aggregate_function f ≡ true → HasPart b f parts s
    → shape_of b (node at (call_of f) parts) ≡ Some s → Gathers b ts
    → Gathers b (node at (call_of f) parts ∷ ts)
one_call b at f parts ts s is has e more =
    subst (λ parts. shape_of b (node at (call_of f) parts) ≡ Some s
    → Gathers b (node at (call_of f) parts ∷ ts)) (sym has.one) over e
  where
    over : shape_of b (node at (call_of f) (trees has.part no_trees)) ≡ Some s
        → Gathers b (node at (call_of f) (trees has.part no_trees) ∷ ts)
    over e =
        let gives = gathers_values b.postings f has.input s is has.gives in
        record {
          inputs = has.input ∷ more.inputs;
          of_inputs = (has.is, more.of_inputs);
          totals = s ∷ more.totals;
          of_totals = (e, more.of_totals);
          held = (
            held_if (aggregate_shape b.postings (of_call f (Some (has.input ∷ []))) (Some has.input))
                s (of_values b.postings (of_call f (Some (has.input ∷ []))) has.input)
                (ap given gives),
            more.held,
          );
          gather =
              ap (λ o. gathered b.postings
              (of_call f (beside (operand false o) (Some [])) ∷ map (aggregate_in b) ts)
              (has.input ∷ more.inputs)) has.is
              ∙ one_of_values b.postings (of_call f (Some (has.input ∷ []))) has.input s
              more.inputs more.totals (map (aggregate_in b) ts) gives more.gather;
        }

one_gathers : (b : Bounds) → AreBounds b → (g : Grouping) (at : ℕ) (op : Operation)
    (parts : Trees ℕ) (ts : List (Tree ℕ)) (s : Shape) → is_aggregate op ≡ true
    → shape_of b (node at op parts) ≡ Some s → Gathers b ts → Gathers b (node at op parts ∷ ts)
one_gathers b bounds g at (leaf_of leaf.Rows) parts ts s is e more =
    one_rows b bounds at parts ts s (no_parts b leaf.Rows parts s e) e more
one_gathers b bounds g at (leaf_of l) parts ts s is e more = absurd cc
one_gathers b bounds g at (one_of op) parts ts s is e more = absurd cc
one_gathers b bounds g at (two_of op) parts ts s is e more = absurd cc
one_gathers b bounds g at (call_of f) parts ts s is e more =
    one_call b at f parts ts s is (has_part b f parts s is e) e more

pub gathers : (b : Bounds) → AreBounds b → (g : Grouping) (ts : List (Tree ℕ))
    → AllByRecursion (IsAggregate b g) ts → Gathers b ts
gathers b bounds g [] h =
    record { inputs = []; of_inputs = tt; totals = []; of_totals = tt; held = tt; gather = refl }
gathers b bounds g (node at op parts ∷ ts) h =
    let s = typed_shape b (node at op parts) h.0.typed in
    one_gathers b bounds g at op parts ts s.0 h.0.is s.1 (gathers b bounds g ts h.1)
