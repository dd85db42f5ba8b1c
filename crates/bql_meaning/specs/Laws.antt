-- What holds of meanings, whatever the query.
use Rattle.std.specs.Prelude.{◌≡◌, ℕ, true, List, Some}
use Rattle.std.specs.Bool.{Decides}
use Rattle.std.specs.List.{AllByRecursion}
use Rattle.limits.specs.declared.bounds.Bounds.{Bounds}
use Rattle.bql_parser.specs.Answer.{query_of}
use Rattle.bql_parser.specs.declared.query.Query.{Query}
use Rattle.bql_parser.specs.Asked.{Asked}
use Rattle.bql_plan.specs.Whole.{expressions}
use Rattle.bql_tree.specs.Tree.{Tree}
use Rattle.bql_types.specs.Same.{same}
use Rattle.bql_types.specs.Typing.{IsTyped}
use Rattle.bql_types.specs.Shaped.{shape_of}
use Rattle.query_rows.specs.Row.{Row}
use Rattle.query_rows.specs.declared.shape.Shape.{Shape}
use Rattle.query_values.specs.declared.value.Value.{Value}
use Rattle.bql_meaning.specs.Answer.{IsAnswer, rows_of}
use Rattle.bql_meaning.specs.Bare.{bare}
use Rattle.bql_meaning.specs.Meaning.{value_of}
use Rattle.bql_meaning.specs.Reading.{Reading}
use Rattle.bql_meaning.specs.Shaped.{HasShortTexts}

-- ---- answers

-- a query has an answer over each list of rows
abbrev pub AnswersAreThere : Type 0
AnswersAreThere = (b : Bounds) (q : Asked) (rows : List Row)
    → (final : List (List Value)) × IsAnswer b q rows final

-- and no other
abbrev pub AnswersAreOne : Type 0
AnswersAreOne = (b : Bounds) (q : Asked) (rows : List Row) (x y : List (List Value))
    → IsAnswer b q rows x → IsAnswer b q rows y → x ≡ y

-- ---- expressions that are the same

-- they are those whose trees are, places aside
abbrev pub SameAreBare : Type 0
SameAreBare = (t u : Tree ℕ) → Decides (same t u) (bare t ≡ bare u)

-- and they have the same value, over all rows
abbrev pub SameHaveOneValue : Type 0
SameHaveOneValue = (b : Bounds) (t u : Tree ℕ) → same t u ≡ true → (rows : List Reading)
    → value_of b rows t ≡ value_of b rows u

-- ---- bounds

-- by whichever bounds an expression has a shape, it has the same value
abbrev pub BoundsChangeNothing : Type 0
BoundsChangeNothing = (b c : Bounds) (t : Tree ℕ) (s u : Shape) → shape_of b t ≡ Some s
    → shape_of c t ≡ Some u → (rows : List Reading) → value_of b rows t ≡ value_of c rows t

-- and so the rows of a query that has a type
abbrev pub BoundsChangeNoRows : Type 0
BoundsChangeNoRows = (b c : Bounds) (q : Query) → IsTyped b (query_of q) → IsTyped c (query_of q)
    → (rows : List Row) → rows_of b (query_of q) rows ≡ rows_of c (query_of q) rows

-- ---- texts

-- each text that an expression of a query writes is short
abbrev pub QueriesHaveShortTexts : Type 0
QueriesHaveShortTexts = (q : Query) → AllByRecursion HasShortTexts (expressions (query_of q))
