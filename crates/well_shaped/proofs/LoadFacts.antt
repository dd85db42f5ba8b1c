-- What instructions load and make of values lies in the shapes that they load and make.
use Rattle.std.proofs.Common.{◌≡◌, ℕ, zero, suc, List, [], ◌∷◌, Option, Some, None, Ok, Err}
use Rattle.std.proofs.Common.{Bool, true, false, cond, refl, sym, subst, arith}
use Rattle.std.specs.Prelude.{option_map, option_and_then, ⊤}
use Rattle.std.specs.List.{AllByRecursion}
use Rattle.std.proofs.lemmas.Bool.{false≢true}
use Rattle.limits.specs.declared.bounds.Bounds.{Bounds}
use Rattle.limits.specs.declared.bounds.Version.{Version}
use Rattle.query_values.specs.Held.{checked}
use Rattle.query_values.specs.Operand as operand
use Rattle.query_values.specs.Operand.{may_unary}
use Rattle.query_values.specs.Operation.{unary_value}
use Rattle.query_values.specs.Unary as operation
use Rattle.query_values.specs.declared.value.Value.{Value}
use Rattle.query_rows.proofs.BinaryFacts.{binary_keeps}
use Rattle.query_rows.proofs.FittingFacts.{fits}
use Rattle.query_rows.proofs.ShapeCases.{truth_cases}
use Rattle.query_rows.proofs.UnaryFacts.{unary_keeps}
use Rattle.query_rows.specs.Keeping.{Has}
use Rattle.query_rows.specs.Rules.{Ruled, unary_shape, binary_shape}
use Rattle.query_rows.specs.Shape.{IsShort, LiesIn, fitting}
use Rattle.query_rows.specs.declared.shape.Shape.{Shape}
use Rattle.query_rows.specs.declared.shape.Shape.TheVariants.{Text, Truth}
use Rattle.query_terms.specs.Column.{is_in, if_in, numbered}
use Rattle.query_rows.specs.ColumnShape.{column_shape}
use Rattle.query_terms.specs.declared.column.Column.{Column}
use Rattle.query_terms.specs.declared.column.Column.TheVariants.{Balance}
use Rattle.query_rows.proofs.ShapedFacts.{texts_lie}
use Rattle.query_rows.specs.Row.{Row, posting_text, transaction_text, any_text}
use Rattle.query_rows.specs.Shaped.{IsShaped}
use Rattle.query_code.specs.declared.instruction.Push.{Push}
use Rattle.query_code.specs.declared.instruction.Push.TheVariants as push
use Rattle.query_code.specs.declared.program.Constant.{Constant}
use Rattle.query_code.specs.declared.program.Constant.TheVariants as constant
use Rattle.plain_machine.specs.Loading as values
use Rattle.plain_machine.specs.Loading.{cell_in, value_acts}
use Rattle.plain_machine.specs.Pool.{key_at, operation_of, value_at, value_in}
use Rattle.well_shaped.proofs.FrameFacts.{each_at}
use Rattle.well_shaped.specs.Sections as shapes
use Rattle.well_shaped.specs.Sections.{given, shape_acts, shape_at, shape_by, shape_of}
use Rattle.well_shaped.specs.StateShape.{AreActs, AreEach, IfSet}

-- the texts of a pool that values are made of
abbrev pub IsShortText : Constant → Type 0
IsShortText (constant.Text t) = IsShort t
IsShortText c = ⊤

-- where the columns of a posting are known by its bounds, it is shaped by them
abbrev pub RowLies : Version → Option Row → Option Bounds → Type 0
RowLies v x None = ⊤
RowLies v None (Some b) = ⊥
RowLies v (Some r) (Some b) = IsShaped b r × (v ≡ b.schema)

-- what values may be loaded, and the shapes that may be
pub record LoadsLie (l : values.Loads) (k : shapes.Loads) : Type 0 where
  pub posting : RowLies l.schema l.row k.posting
  pub balance : IfSet LiesIn l.balance k.balance
  pub keys : AreEach LiesIn l.keys k.keys
  pub aggregates : AreEach LiesIn l.aggregates k.aggregates

has_given : (x : Option Value) (s : Ruled) → Has x s → IfSet LiesIn x (given s)
has_given x (Err e) h = tt
has_given None (Ok s) h = absurd h
has_given (Some x) (Ok s) h = h

-- what is loaded, where it can be held
held_if_loaded : (x : Option Value) (s : Option Shape) → IfSet LiesIn x s
    → IfSet LiesIn (option_and_then (checked true) x) (option_and_then (λ t. given (fitting t)) s)
held_if_loaded x None h = tt
held_if_loaded None (Some s) h = absurd h
held_if_loaded (Some x) (Some s) h = has_given (checked true x) (fitting s) (fits true x s refl h)

-- ---- the pool

constant_lies : (c : Constant) → IsShortText c
    → IfSet LiesIn (value_in c)
    (shapes.shape_in c)
constant_lies (constant.Text t) short = short
constant_lies (constant.Number n) short = (refl, omega arith)
constant_lies (constant.Day d) short = tt
constant_lies (constant.Pattern t) short = tt
constant_lies (constant.Texts ts) short = tt
constant_lies (constant.Numbers ns) short = tt
constant_lies (constant.Days ds) short = tt

pool_lies : (pool : List Constant) (i : ℕ) → AllByRecursion IsShortText pool
    → IfSet LiesIn (value_at pool i) (shape_at pool i)
pool_lies [] i short = tt
pool_lies (c ∷ pool) zero short = constant_lies c short.0
pool_lies (c ∷ pool) (suc i) short = pool_lies pool i short.1

module _ (pool : List Constant) (short : AllByRecursion IsShortText pool) (l : values.Loads)
    (k : shapes.Loads) (lie : LoadsLie l k) where
  -- ---- columns

  -- a column that is read of the posting's row
  of_row : (c : Column) (row : Option Row) (posting : Option Bounds)
      → cell_in l c ≡ option_map (λ (r : Row). r.cell c) row → RowLies l.schema row posting
      → IfSet LiesIn (option_and_then (cell_in l) (if_in l.schema c))
      (option_and_then (shape_by c) posting)
  of_row c row None e h = tt
  of_row c None (Some b) e h = absurd h
  of_row c (Some r) (Some b) e h = subst (λ v. Lies v) (sym h.1) (by (is_in b.schema c) refl)
    where
      Lies : Version → Type 0
      Lies v =
          IfSet LiesIn (option_and_then (cell_in l) (cond (is_in v c) (Some c) None)) (shape_by c b)

      by : (t : Bool) → is_in b.schema c ≡ t
          → IfSet LiesIn (option_and_then (cell_in l) (cond t (Some c) None))
          (cond t (Some (column_shape b c)) None)
      by false is = tt
      by true is = subst (λ x. IfSet LiesIn x (Some (column_shape b c))) (sym e) (h.0.cells c is)

  column_lies : (c : Column)
      → IfSet LiesIn (option_and_then (cell_in l) (if_in l.schema c)) (shape_of k c)
  column_lies Balance = lie.balance
  column_lies c = of_row c l.row k.posting refl lie.posting

  numbered_lies : (o : Option Column)
      → IfSet LiesIn (option_and_then (cell_in l) (option_and_then (if_in l.schema) o))
      (option_and_then (shape_of k) o)
  numbered_lies None = tt
  numbered_lies (Some c) = column_lies c

  -- ---- metadata

  abbrev IsOfTexts : (List ℕ → Row → Value) → Type 0
  IsOfTexts text = (b : Bounds) (r : Row) → IsShaped b r → (key : List ℕ) → LiesIn (text key r) Text

  text_lies : (text : List ℕ → Row → Value) → IsOfTexts text → (key : Option (List ℕ))
      → IfSet LiesIn (values.text_at l text key) (shapes.text_at k key)
  text_lies text of_texts None = tt
  text_lies text of_texts (Some key) = by l.row k.posting lie.posting
    where
      by : (row : Option Row) (posting : Option Bounds) → RowLies l.schema row posting
          → IfSet LiesIn (option_map (text key) row) (option_map (λ b. Text) posting)
      by row None h = tt
      by None (Some b) h = absurd h
      by (Some r) (Some b) h = of_texts b r h.0 key

  -- ---- all that is loaded

  loaded_lies : (op : Push) → IfSet LiesIn (values.loaded pool l op) (shapes.loaded pool k op)
  loaded_lies push.True = tt
  loaded_lies push.False = tt
  loaded_lies (push.Const i) = pool_lies pool i short
  loaded_lies (push.LoadColumn n) = numbered_lies (numbered n)
  loaded_lies (push.LoadKey i) = each_at LiesIn l.keys k.keys i lie.keys
  loaded_lies (push.LoadAggregate i) = each_at LiesIn l.aggregates k.aggregates i lie.aggregates
  loaded_lies (push.Meta i) =
      text_lies posting_text (λ b r is. (texts_lie b r is).posting) (key_at pool i)
  loaded_lies (push.EntryMeta i) =
      text_lies transaction_text (λ b r is. (texts_lie b r is).transaction) (key_at pool i)
  loaded_lies (push.AnyMeta i) =
      text_lies any_text (λ b r is. (texts_lie b r is).any) (key_at pool i)

  -- ---- operations

  unary_lies : (o : Option operation.Unary) (x : Value) (s : Shape) → LiesIn x s
      → IfSet LiesIn (option_and_then (λ op. checked (may_unary op x) (unary_value op x)) o)
      (option_and_then (λ op. given (unary_shape op s)) o)
  unary_lies None x s h = tt
  unary_lies (Some op) x s h =
      has_given (checked (may_unary op x) (unary_value op x)) (unary_shape op s)
      (unary_keeps op x s h)

  test_lies : (x : Value) (s : Shape) → LiesIn x s → shapes.is_truth s ≡ true
      → operand.is_truth x ≡ true
  test_lies x Truth h e = truth_cases (λ y. operand.is_truth y ≡ true) refl (λ b. refl) x h
  test_lies x s h e = absurd (false≢true e)

  pub acts_lie : AreActs LiesIn (value_acts pool l) (shape_acts pool k)
  acts_lie = record {
    push = λ op. held_if_loaded (values.loaded pool l op) (shapes.loaded pool k op) (loaded_lies op);
    unary = λ op. unary_lies (operation_of pool op);
    binary = λ op x u s t h g.
        has_given (values.binary_of op x u) (binary_shape op s t) (binary_keeps op x u s t h g);
    test = test_lies;
  }
