-- The rows of a query, as they are computed by its plan.
use Rattle.std.specs.Prelude.{◌≡◌, ℕ, List, length, map, take, slice_index_or}
use Rattle.limits.specs.declared.bounds.Bounds.{Bounds}
use Rattle.bql_parser.specs.Answer.{query_of}
use Rattle.bql_parser.specs.declared.query.Query.{Query}
use Rattle.bql_plan.specs.Plan.{plan}
use Rattle.query_rows.specs.FinalRows.{Ranked}
use Rattle.query_values.specs.declared.value.Value.{Value}
use Rattle.query_values.specs.declared.value.Value.TheVariants.{Null}
use Rattle.bql_meaning.specs.Answer.{row_of}
use Rattle.bql_meaning.specs.Meaning.{value_of}
use Rattle.bql_meaning.specs.Reading.{Reading}

-- so many of the values are shown, and the row is ordered by those at these indices
abbrev pub ranked_by : ℕ → List ℕ → List Value → Ranked
ranked_by targets order values =
    record { shown = take targets values; ranks = map (λ i. slice_index_or values i Null) order }

-- The values of what a plan shows and hides, at the indices by which it orders, are those of the
-- targets and of the items of its query.
abbrev pub PlansRankAsAsked : Type 0
PlansRankAsAsked = (b : Bounds) (q : Query) (rows : List Reading)
    → ranked_by (length (query_of q).targets) (plan (query_of q)).order
    (map (value_of b rows) (plan (query_of q)).shown) ≡ row_of b (query_of q) rows
