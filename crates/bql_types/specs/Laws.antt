-- What holds of types of queries, whatever the query.
use Rattle.std.specs.Prelude.{◌≡◌, ◌≢◌, ℕ, false, List, [], map, Some, None}
use Rattle.std.specs.Prelude.{Option, Ok, Err, true}
use Rattle.std.specs.List.{IsAmong, slice_get}
use Rattle.limits.specs.declared.bounds.Bounds.{Bounds}
use Rattle.bql_parser.specs.Asked.{Asked, Target, Item, ItemKind, target_item, tree_item}
use Rattle.bql_grammar.specs.Clause.{Filters}
use Rattle.bql_parser.specs.Standing as standing
use Rattle.bql_parser.specs.declared.query.Query.{Query}
use Rattle.bql_parser.specs.declared.standing.Valuation.{Valuation}
use Rattle.bql_tree.specs.Tree.{Tree}
use Rattle.query_rows.specs.ColumnShape.{AreBounds}
use Rattle.query_rows.specs.declared.shape.Shape.{Shape}
use Rattle.query_rows.specs.declared.shape.Shape.TheVariants.{Truth}
use Rattle.bql_types.specs.Answer.{Answers}
use Rattle.bql_types.specs.Cause.{least_of, is_before}
use Rattle.bql_types.specs.Same.{same}
use Rattle.bql_types.specs.Shaped.{shape_of, shape_causes}
use Rattle.bql_types.specs.Typing.{IsTyped, is_ordered, causes, filter_causes, filters_causes}
use Rattle.bql_types.specs.declared.cause.TypeCause.{TypeCause}
use Rattle.bql_types.specs.declared.cause.TypeCauseKind.{TypeCauseKind}
use Rattle.refusals.specs.declared.refusal.Refusal.{Refusal}
use Rattle.refusals.specs.declared.refusal.Refusal.TheVariants.{OutOfMemory}
use Rattle.bql_types.specs.declared.typed.Typed.{Typed}

abbrev pub cause_kind : TypeCause → TypeCauseKind
cause_kind c = c.kind

-- one of the causes, of which none stands before it
pub record IsLeast (cs : List TypeCause) (c : TypeCause) : Type 0 where
  pub among : IsAmong cs c
  pub least : (d : TypeCause) → IsAmong cs d → is_before d c ≡ false

abbrev pub LeastIsTold : Type 0
LeastIsTold = (cs : List TypeCause) (c : TypeCause) → least_of cs ≡ Some c → IsLeast cs c

abbrev pub NoneIsTold : Type 0
NoneIsTold = (cs : List TypeCause) → least_of cs ≡ None → cs ≡ []

-- an expression without causes has a shape
abbrev pub ShapesAreFound : Type 0
ShapesAreFound = (b : Bounds) (t : Tree ℕ) → shape_causes b t ≡ []
    → (s : Shape) × (shape_of b t ≡ Some s)

-- and one with a shape has no cause
abbrev pub ShapesHaveNoCauses : Type 0
ShapesHaveNoCauses = (b : Bounds) (t : Tree ℕ) (s : Shape) → shape_of b t ≡ Some s
    → shape_causes b t ≡ []

-- expressions that are the same have the same shape, if they have one
abbrev pub SameHaveOneShape : Type 0
SameHaveOneShape = (b : Bounds) (t u : Tree ℕ) → same t u ≡ true → shape_of b t ≡ shape_of b u

-- and causes of the same kinds, each at its place
abbrev pub SameHaveCausesAlike : Type 0
SameHaveCausesAlike = (b : Bounds) (t u : Tree ℕ) → same t u ≡ true
    → map cause_kind (shape_causes b t) ≡ map cause_kind (shape_causes b u)

-- a query has a type, or it is refused, where memory doesn't lack
abbrev pub TypedIsNotRefused : Type 0
TypedIsNotRefused = (b : Bounds) (q : Query) (t : Typed) (f : Refusal TypeCause)
    → Answers b q (Ok t) → Answers b q (Err f) → f ≡ OutOfMemory

-- and it is refused in one way
abbrev pub OneRefusal : Type 0
OneRefusal = (b : Bounds) (q : Query) (f g : Refusal TypeCause) → Answers b q (Err f) → Answers b q (Err g)
    → f ≢ OutOfMemory → g ≢ OutOfMemory → f ≡ g

-- what stands behind a list of causes that is empty

abbrev pub IsShaped : Bounds → Tree ℕ → Type 0
IsShaped b t = (s : Shape) × (shape_of b t ≡ Some s)

abbrev pub IsFilter : Bounds → Option (Tree ℕ) → Type 0
IsFilter b (Some t) = shape_of b t ≡ Some Truth
IsFilter b None = Unit {0}

abbrev pub IsOrder : Bounds → List Target → ItemKind → Type 0
IsOrder b ts (target_item index) =
    (t : Target) × (s : Shape) × (slice_get ts index ≡ Some t) × (shape_of b t.tree ≡ Some s)
    × (is_ordered s ≡ true)
IsOrder b ts (tree_item t) = (s : Shape) × (shape_of b t ≡ Some s) × (is_ordered s ≡ true)

-- what a typed query asks has shapes: targets any, filters truth, and order items an order
pub record HasShapes (b : Bounds) (s : Asked) : Type 0 where
  pub targets : (t : Target) → IsAmong s.targets t → IsShaped b t.tree
  pub from : IsFilter b s.filters.from
  pub filter : IsFilter b s.filters.filter
  pub order : (i : Item) → IsAmong s.order.items i → IsOrder b s.targets i.kind

abbrev pub TypedHaveShapes : Type 0
TypedHaveShapes = (b : Bounds) (s : Asked) → IsTyped b s → HasShapes b s

-- what isn't written of a query

-- of the SELECT that a JOURNAL stands for only FROM can be at fault
abbrev pub JournalsAreTyped : Type 0
JournalsAreTyped = (b : Bounds) → AreBounds b → (pattern : Option (List ℕ)) (at : Option Valuation)
    (from : Option (Tree ℕ)) → causes b (standing.journal pattern at from) ≡ filter_causes b from

-- and of that for which a BALANCES stands only the filters
abbrev pub BalancesAreTyped : Type 0
BalancesAreTyped = (b : Bounds) → AreBounds b → (at : Option Valuation) (f : Filters (Tree ℕ))
    → causes b (standing.balances at f) ≡ filters_causes b f
