-- An expression that has a shape has a value of this shape.
use Rattle.std.proofs.Common.{◌≡◌, ℕ, ◌≤◌, Bool, true, false, not, List, [], ◌∷◌, length, map}
use Rattle.std.proofs.Common.{Option}
use Rattle.std.proofs.Common.{Some, None, Ok, Err, refl, sym, ap, subst, ◌∙◌, cond, arith, ◌⊎◌, inl}
use Rattle.std.proofs.Common.{inr}
use Rattle.std.specs.Int.RustNames.{unsigned_abs}
use Rattle.std.specs.List.{AllByRecursion}
use Rattle.limits.specs.declared.bounds.Bounds.{Bounds}
use Rattle.bql_rules.specs.Rules.{leaf_shape, call_shape, single}
use Rattle.bql_tree.specs.Tree.{Operation, leaf_of, one_of, two_of, call_of, Tree, node, Trees}
use Rattle.bql_tree.specs.Tree.{no_trees, trees}
use Rattle.bql_tree.specs.declared.function.Function.{Function}
use Rattle.bql_tree.specs.declared.function.Function.TheVariants as function
use Rattle.bql_tree.specs.declared.tree.BinaryOperator.{BinaryOperator}
use Rattle.bql_tree.specs.declared.tree.BinaryOperator.TheVariants as binary
use Rattle.bql_tree.specs.declared.tree.MetadataOwner as entries
use Rattle.bql_tree.specs.declared.tree.MetadataOwner.TheVariants.{Posting, Transaction, Any}
use Rattle.bql_tree.specs.declared.tree.Leaf.{Leaf}
use Rattle.bql_tree.specs.declared.tree.Leaf.TheVariants as leaf
use Rattle.bql_types.specs.Shaped.{shape_of, shapes_of, ruled, given, rule, is_equation, beside}
use Rattle.bql_types.specs.Shaped.{operand, is_equality, beside_null}
use Rattle.bql_types.specs.Sought.{is_aggregate, is_aggregate_function}
use Rattle.query_terms.specs.Column.{is_in}
use Rattle.query_rows.specs.ColumnShape.{column_shape}
use Rattle.query_terms.specs.declared.column.Column.{Column}
use Rattle.query_terms.specs.declared.column.Column.TheVariants as column
use Rattle.query_rows.proofs.ShapedFacts.{texts_lie}
use Rattle.query_rows.specs.Row.{Row}
use Rattle.query_rows.specs.Shaped.{IsShaped}
use Rattle.query_rows.specs.Keeping.{AllIn}
use Rattle.query_rows.specs.Rules.{Ruled}
use Rattle.query_rows.specs.Shape.{LiesIn}
use Rattle.query_rows.specs.declared.shape.Shape.{Shape}
use Rattle.query_rows.specs.declared.shape.Shape.TheVariants as shape
use Rattle.query_values.specs.Aggregate.{aggregate_of}
use Rattle.query_values.specs.Equality.{same}
use Rattle.query_values.specs.declared.operation.Aggregate.TheVariants.{CountRows}
use Rattle.query_values.specs.declared.value.Value.{Value}
use Rattle.query_values.specs.declared.value.Value.TheVariants.{Truth}
use Rattle.bql_meaning.specs.Shaped.{IsRead, HasShortTexts, AllHaveShortTexts, IsShortIn}
use Rattle.bql_meaning.specs.Meaning.{value_of, values_of, applied, leaf_value, input_of}
use Rattle.bql_types.specs.Gathered.{aggregate_by, of_call}
use Rattle.bql_meaning.specs.Reading.{Reading, cell, text}
use Rattle.bql_meaning.proofs.BoundFacts.{column_with_shape}
use Rattle.bql_meaning.proofs.ShapeFacts.{one_lies, two_lies, equations_give_truth, AllLie}
use Rattle.bql_meaning.proofs.ShapeFacts.{call_lies, gathered_lies}

-- ---- leaves

cell_lies : (b : Bounds) (c : Column) (r : Reading) → IsRead b r → is_in b.schema c ≡ true
    → LiesIn (cell c r) (column_shape b c)
cell_lies b column.Balance r is known = is.balance
cell_lies b c r is known = is.row.cells c known

column_lies : (b : Bounds) (c : Column) (rows : List Reading) → AllByRecursion (IsRead b) rows
    → is_in b.schema c ≡ true → LiesIn (leaf_value (leaf.Column c) rows) (column_shape b c)
column_lies b c [] read known = tt
column_lies b c (r ∷ rows) read known = cell_lies b c r read.0 known

-- a text of metadata
entry_lies : (b : Bounds) (r : Row) → IsShaped b r → (x : entries.MetadataOwner) (key : List ℕ)
    → LiesIn (text x key r) shape.Text
entry_lies b r is Posting key = (texts_lie b r is).posting key
entry_lies b r is Transaction key = (texts_lie b r is).transaction key
entry_lies b r is Any key = (texts_lie b r is).any key

text_lies : (b : Bounds) (l : Leaf) (rows : List Reading) → AllByRecursion (IsRead b) rows
    → (s : Shape) → leaf_shape b l ≡ Ok s → IsShortIn (leaf_of l) → LiesIn (leaf_value l rows) s
text_lies b (leaf.Column c) rows read s e short =
    let known = column_with_shape (is_in b.schema c) (column_shape b c) s e in
    subst (LiesIn (leaf_value (leaf.Column c) rows)) known.1 (column_lies b c rows read known.0)
text_lies b leaf.Null rows read s e short = tt
text_lies b (leaf.Number n) rows read s e short =
    let is : shape.Number n.places (unsigned_abs n.count) ≡ s = cc in
    subst (LiesIn (leaf_value (leaf.Number n) rows)) is (refl, omega arith)
text_lies b (leaf.TooWide t) rows read s e short = tt
text_lies b (leaf.Text t) rows read s e short =
    let is : shape.Text ≡ s = cc in subst (LiesIn (leaf_value (leaf.Text t) rows)) is short
text_lies b (leaf.Day d) rows read s e short =
    let is : shape.Day ≡ s = cc in subst (LiesIn (leaf_value (leaf.Day d) rows)) is tt
text_lies b (leaf.Truth t) rows read s e short =
    let is : shape.Truth ≡ s = cc in subst (LiesIn (leaf_value (leaf.Truth t) rows)) is tt
text_lies b leaf.Rows rows read s e short = tt
text_lies b (leaf.Meta x key) [] read s e short = tt
text_lies b (leaf.Meta x key) (r ∷ rows) read s e short =
    let is : shape.Text ≡ s = cc in
    subst (LiesIn (leaf_value (leaf.Meta x key) (r ∷ rows))) is (entry_lies b r.row read.0.row x key)
text_lies b (leaf.HasAccount p) rows read s e short =
    let is : shape.Truth ≡ s = cc in subst (LiesIn (leaf_value (leaf.HasAccount p) rows)) is tt

-- ---- operations that are no aggregates

applied_lies : (b : Bounds) (op : Operation) (rows : List Reading) → AllByRecursion (IsRead b) rows
    → IsShortIn op → is_aggregate op ≡ false → (xs : List Value) (ss : List Shape) (s : Shape)
    → AllLie xs ss → is_equation op ≡ false → rule b op ss ≡ Ok s → LiesIn (applied op rows xs) s
applied_lies b (leaf_of l) rows read short plain xs [] s all eq e =
    text_lies b l rows read s e short
applied_lies b (leaf_of l) rows read short plain xs (t ∷ ss) s all eq e = absurd cc
applied_lies b (one_of op) rows read short plain [] ss s all eq e = tt
applied_lies b (one_of op) rows read short plain (x ∷ []) [] s all eq e = absurd all
applied_lies b (one_of op) rows read short plain (x ∷ []) (t ∷ []) s all eq e =
    one_lies op x t s all.0 e
applied_lies b (one_of op) rows read short plain (x ∷ []) (t ∷ u ∷ ss) s all eq e = absurd all.1
applied_lies b (one_of op) rows read short plain (x ∷ y ∷ xs) ss s all eq e = tt
applied_lies b (two_of op) rows read short plain [] ss s all eq e = tt
applied_lies b (two_of op) rows read short plain (x ∷ []) ss s all eq e = tt
applied_lies b (two_of op) rows read short plain (x ∷ y ∷ []) [] s all eq e = absurd all
applied_lies b (two_of op) rows read short plain (x ∷ y ∷ []) (t ∷ []) s all eq e = absurd all.1
applied_lies b (two_of op) rows read short plain (x ∷ y ∷ []) (t ∷ u ∷ []) s all eq e =
    two_lies op x y t u s all.0 all.1.0 e
applied_lies b (two_of op) rows read short plain (x ∷ y ∷ []) (t ∷ u ∷ v ∷ ss) s all eq e =
    absurd all.1.1
applied_lies b (two_of op) rows read short plain (x ∷ y ∷ z ∷ xs) ss s all eq e = tt
applied_lies b (call_of f) rows read short plain xs ss s all eq e =
    call_lies b f xs ss s all plain e

-- ---- equations

truths_lie : (op : BinaryOperator) → (op ≡ binary.Equal) ⊎ (op ≡ binary.NotEqual) → (b : Bounds)
    (ss : List Shape) (s : Shape) → rule b (two_of op) ss ≡ Ok s → beside_null op ≡ Ok shape.Truth
    → (a : Bool) → LiesIn (Truth a) s
truths_lie op is b [] s e beside a = absurd cc
truths_lie op is b (t ∷ []) s e beside a =
    let truth : shape.Truth ≡ s = cc in subst (LiesIn (Truth a)) truth tt
truths_lie op is b (t ∷ u ∷ []) s e beside a = equations_give_truth op t u s a is e
truths_lie op is b (t ∷ u ∷ v ∷ ss) s e beside a = absurd cc

equation_lies : (b : Bounds) (op : BinaryOperator) (rows : List Reading) → is_equality op ≡ true
    → (xs : List Value) (ss : List Shape) (s : Shape) → rule b (two_of op) ss ≡ Ok s
    → LiesIn (applied (two_of op) rows xs) s
equation_lies b op rows eq [] ss s e = tt
equation_lies b op rows eq (x ∷ []) ss s e = tt
equation_lies b binary.Equal rows eq (x ∷ y ∷ []) ss s e =
    truths_lie binary.Equal (inl refl) b ss s e refl (same x y)
equation_lies b binary.NotEqual rows eq (x ∷ y ∷ []) ss s e =
    truths_lie binary.NotEqual (inr refl) b ss s e refl (not (same x y))
equation_lies b op rows eq (x ∷ y ∷ []) ss s e = absurd cc
equation_lies b op rows eq (x ∷ y ∷ z ∷ xs) ss s e = tt

-- ---- aggregates

input_lies : (xs : List Value) (s : Shape) → AllLie xs (s ∷ []) → LiesIn (input_of xs) s
input_lies [] s all = absurd all
input_lies (x ∷ xs) s all = all.0

inputs_lie : (b : Bounds) (f : Reading → Value) (s : Shape)
    → ((r : Reading) → IsRead b r → LiesIn (f r) s)
    → (rows : List Reading) → AllByRecursion (IsRead b) rows → AllIn s (map f rows)
inputs_lie b f s one [] read = tt
inputs_lie b f s one (r ∷ rows) read = (one r read.0, inputs_lie b f s one rows read.1)

as_many : (f : Reading → Value) (rows : List Reading) → length (map f rows) ≡ length rows
as_many f [] = refl
as_many f (r ∷ rows) = omega (arith, as_many f rows)

rows_lie : (b : Bounds) (f : Reading → Value) (rows : List Reading) → length rows ≤ b.postings
    → (ss : List Shape) (s : Shape) → rule b (leaf_of leaf.Rows) ss ≡ Ok s
    → LiesIn (aggregate_of CountRows (map f rows)) s
rows_lie b f rows few [] s e =
    let is : shape.Number 0 b.postings ≡ s = cc in
    subst (LiesIn (aggregate_of CountRows (map f rows))) is
    (refl, omega (arith, few, as_many f rows))
rows_lie b f rows few (t ∷ ss) s e = absurd cc

call_is_single : (b : Bounds) (f : Function) (ss : List Shape) → is_aggregate_function f ≡ true
    → call_shape b f ss ≡ single b.postings f ss
call_is_single b function.OneOf ss is = absurd cc
call_is_single b f ss is = refl

-- what is gathered of a row
abbrev gathered_at : Bounds → Trees ℕ → Reading → Value
gathered_at b parts r = input_of (values_of b (r ∷ []) parts)

gathering_lies : (b : Bounds) (op : Operation) (parts : Trees ℕ) (ss : List Shape) (s : Shape)
    → is_aggregate op ≡ true → rule b op ss ≡ Ok s
    → ((rows : List Reading) → length rows ≤ b.postings → AllByRecursion (IsRead b) rows
    → AllLie (values_of b rows parts) ss)
    → (rows : List Reading) → length rows ≤ b.postings → AllByRecursion (IsRead b) rows
    → LiesIn (aggregate_of (aggregate_by op (Some ss))
    (map (gathered_at b parts) rows)) s
gathering_lies b (leaf_of leaf.Rows) parts ss s is e all rows few read =
    rows_lie b (gathered_at b parts) rows few ss s e
gathering_lies b (leaf_of l) parts ss s is e all rows few read = absurd cc
gathering_lies b (one_of op) parts ss s is e all rows few read = absurd cc
gathering_lies b (two_of op) parts ss s is e all rows few read = absurd cc
gathering_lies b (call_of f) parts ss s is e all rows few read =
    by ss (sym (call_is_single b f ss is) ∙ e) all
  where
    of_rows : (t : Shape)
        → ((rows : List Reading) → length rows ≤ b.postings → AllByRecursion (IsRead b) rows
        → AllLie (values_of b rows parts) (t ∷ []))
        → (rows : List Reading) → length rows ≤ b.postings → AllByRecursion (IsRead b) rows
        → AllIn t (map (gathered_at b parts) rows)
    of_rows t all [] few read = tt
    of_rows t all (r ∷ rest) few read = inputs_lie b (gathered_at b parts) t
        (λ r is. input_lies (values_of b (r ∷ []) parts) t (all (r ∷ []) (omega (arith, few))
        (is, tt))) (r ∷ rest) read

    by : (ss : List Shape) → single b.postings f ss ≡ Ok s
        → ((rows : List Reading) → length rows ≤ b.postings → AllByRecursion (IsRead b) rows
        → AllLie (values_of b rows parts) ss)
        → LiesIn (aggregate_of (of_call f (Some ss)) (map (gathered_at b parts) rows)) s
    by [] e all = absurd cc
    by (t ∷ []) e all =
        gathered_lies b.postings f t s (map (gathered_at b parts) rows) is
        (omega (arith, few, as_many (gathered_at b parts) rows))
        (of_rows t all rows few read) e
    by (t ∷ u ∷ ss) e all = absurd cc

-- ---- expressions

pub given_is : (r : Ruled) (s : Shape) → given (Some r) ≡ Some s → r ≡ Ok s
given_is (Ok t) s e = let is : t ≡ s = cc in ap Ok is
given_is (Err m) s e = absurd cc

abbrev Lies : Bounds → Tree ℕ → Shape → Type 0
Lies b t s = (rows : List Reading) → length rows ≤ b.postings → AllByRecursion (IsRead b) rows
    → LiesIn (value_of b rows t) s

abbrev PartsLie : Bounds → Trees ℕ → List Shape → Type 0
PartsLie b ts ss = (rows : List Reading) → length rows ≤ b.postings
    → AllByRecursion (IsRead b) rows → AllLie (values_of b rows ts) ss

-- an operation that is no equation, where its parts have shapes
plain_lies : (b : Bounds) (at : ℕ) (op : Operation) (parts : Trees ℕ) (ss : List Shape) (s : Shape)
    → IsShortIn op → is_equation op ≡ false → shapes_of b false parts ≡ Some ss
    → rule b op ss ≡ Ok s → PartsLie b parts ss → Lies b (node at op parts) s
plain_lies b at op parts ss s short eq is e all rows few read = by (is_aggregate op) refl
  where
    by : (gathers : Bool) → is_aggregate op ≡ gathers → LiesIn (cond gathers
        (aggregate_of (aggregate_by op (shapes_of b false parts))
        (map (gathered_at b parts) rows))
        (applied op rows (values_of b rows parts))) s
    by true gathers =
        subst (λ o. LiesIn (aggregate_of (aggregate_by op o)
        (map (gathered_at b parts) rows)) s) (sym is)
        (gathering_lies b op parts ss s gathers e all rows few read)
    by false plain =
        applied_lies b op rows read short plain (values_of b rows parts) ss s (all rows few read)
        eq e

-- the shapes that a shape comes of
abbrev pub FromParts : Bounds → Operation → Option (List Shape) → Shape → Type 0
FromParts b op None s = ⊥
FromParts b op (Some ss) s = rule b op ss ≡ Ok s

pub from_parts : (b : Bounds) (op : Operation) (o : Option (List Shape)) (s : Shape)
    → given (ruled b op o) ≡ Some s → FromParts b op o s
from_parts b op None s e = absurd cc
from_parts b op (Some ss) s e = given_is (rule b op ss) s e

with_parts : (b : Bounds) (at : ℕ) (op : Operation) (parts : Trees ℕ) (s : Shape) → IsShortIn op
    → is_equation op ≡ false
    → ((ss : List Shape) → shapes_of b false parts ≡ Some ss → PartsLie b parts ss)
    → (o : Option (List Shape)) → shapes_of b false parts ≡ o → FromParts b op o s
    → Lies b (node at op parts) s
with_parts b at op parts s short eq all None is h = absurd h
with_parts b at op parts s short eq all (Some ss) is h =
    plain_lies b at op parts ss s short eq is h (all ss is)

with_null : (b : Bounds) (at : ℕ) (op : BinaryOperator) (parts : Trees ℕ) (s : Shape)
    → is_equality op ≡ true → (o : Option (List Shape)) → FromParts b (two_of op) o s
    → Lies b (node at (two_of op) parts) s
with_null b at op parts s eq None h = absurd h
with_null b at op parts s eq (Some ss) h = λ rows few read.
    equation_lies b op rows eq (values_of b rows parts) ss s h

node_lies : (b : Bounds) (at : ℕ) (op : Operation) (parts : Trees ℕ) (s : Shape) → IsShortIn op
    → shape_of b (node at op parts) ≡ Some s
    → ((ss : List Shape) → shapes_of b false parts ≡ Some ss → PartsLie b parts ss)
    → Lies b (node at op parts) s
node_lies b at (leaf_of l) parts s short e all =
    with_parts b at (leaf_of l) parts s short refl all (shapes_of b false parts) refl
    (from_parts b (leaf_of l) (shapes_of b false parts) s e)
node_lies b at (one_of op) parts s short e all =
    with_parts b at (one_of op) parts s short refl all (shapes_of b false parts) refl
    (from_parts b (one_of op) (shapes_of b false parts) s e)
node_lies b at (call_of f) parts s short e all =
    with_parts b at (call_of f) parts s short refl all (shapes_of b false parts) refl
    (from_parts b (call_of f) (shapes_of b false parts) s e)
node_lies b at (two_of op) parts s short e all = by (is_equality op) refl
    (from_parts b (two_of op) (shapes_of b (is_equality op) parts) s e)
  where
    by : (eq : Bool) → is_equality op ≡ eq → FromParts b (two_of op) (shapes_of b eq parts) s
        → Lies b (node at (two_of op) parts) s
    by true eq h = with_null b at op parts s eq (shapes_of b true parts) h
    by false eq h =
        with_parts b at (two_of op) parts s short eq all (shapes_of b false parts) refl h

-- the shape of the first, and those of the others
pub first_shape : (o : Option Shape) (rest : Option (List Shape)) (ss : List Shape)
    → beside (operand false o) rest ≡ Some ss
    → (s : Shape) × (others : List Shape) × (o ≡ Some s) × (rest ≡ Some others)
    × (ss ≡ s ∷ others)
first_shape None rest ss e = absurd cc
first_shape (Some s) None ss e = absurd cc
first_shape (Some s) (Some others) ss e = let is : ss ≡ s ∷ others = cc in
    (s, others, refl, refl, is)

mutual
  pub values_lie : (b : Bounds) (t : Tree ℕ) (s : Shape) → HasShortTexts t → shape_of b t ≡ Some s
      → Lies b t s
  values_lie b (node at op parts) s short e =
      node_lies b at op parts s short.0 e (λ ss is. all_lie b parts ss short.1 is)

  all_lie : (b : Bounds) (ts : Trees ℕ) (ss : List Shape) → AllHaveShortTexts ts
      → shapes_of b false ts ≡ Some ss → PartsLie b ts ss
  all_lie b no_trees ss short e rows few read =
      let is : ss ≡ [] = cc in subst (AllLie []) (sym is) tt
  all_lie b (trees t ts) ss short e rows few read =
      let h = first_shape (shape_of b t) (shapes_of b false ts) ss e in
      subst (AllLie (value_of b rows t ∷ values_of b rows ts)) (sym h.4)
      (values_lie b t h.0 short.0 h.2 rows few read, all_lie b ts h.1 short.1 h.3 rows few read)
