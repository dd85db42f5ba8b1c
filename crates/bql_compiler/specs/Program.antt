-- The program of a plan: its sections, its pool, and how deep its stack becomes; and for which of
-- these there is none.
use Rattle.std.specs.Prelude.{ℕ, ◌-◌, ◌<◌, ◌⊎◌, Bool, true, false, max, List, [], ◌∷◌, ◌++◌, map}
use Rattle.std.specs.Prelude.{length, Option, Some, None, if◌then◌else◌}
use Rattle.limits.specs.declared.bounds.Bounds.{Bounds}
use Rattle.limits.specs.declared.counts.TheConstants.{LONGEST_SECTION, MOST_ITEMS, MOST_VALUES}
use Rattle.bql_parser.specs.Asked.{Asked, Target}
use Rattle.bql_plan.specs.Plan.{Plan, plan}
use Rattle.bql_tree.specs.Tree.{Tree, node, no_trees, trees}
use Rattle.bql_types.specs.Gathered.{aggregate_in}
use Rattle.query_code.specs.declared.program.Code.{Code}
use Rattle.query_code.specs.declared.program.Constant.{Constant}
use Rattle.query_code.specs.declared.program.Mode.{Mode}
use Rattle.query_code.specs.declared.program.Mode.TheVariants.{Plain, Grouped}
use Rattle.query_code.specs.declared.program.Output.{Output}
use Rattle.query_code.specs.declared.program.Parts.{Parts}
use Rattle.bql_code.specs.Code.{code, all_code, depth, all_depth}
use Rattle.bql_code.specs.Core.{Core, truth, loading, both}
use Rattle.bql_lowering.specs.Lowered.{Gathered, of_a_row, lowered, all_lowered}
use Rattle.bql_code.specs.Pool.{used, all_used, pooled}

-- ---- what the sections compute

-- what is gathered of each row for an aggregate: its part, if it has one
abbrev pub input_in : Tree ℕ → List (Tree ℕ)
input_in (node at op no_trees) = []
input_in (node at op (trees t ts)) = t ∷ []

abbrev pub inputs_in : List (Tree ℕ) → List (Tree ℕ)
inputs_in [] = []
inputs_in (t ∷ ts) = input_in t ++ inputs_in ts

-- What each section computes: of the filter one expression, of the others one behind the other.
pub record Sections : Type 0 where
  pub filter : Core
  pub row : List Core
  pub last : List Core

-- FROM and WHERE, one of them, or what is always true
abbrev pub filtering : Option Core → Option Core → Core
filtering (Some x) (Some y) = both x y
filtering (Some x) None = x
filtering None (Some y) = y
filtering None None = loading (truth true)

abbrev pub filter_of : Bounds → Option (Tree ℕ) → Option Core
filter_of b (Some t) = Some (lowered b of_a_row t)
filter_of b None = None

-- a row shows its values; of a group the row gives the keys and the inputs
abbrev pub row_of : Bounds → Plan → List Core
row_of b p =
    if p.grouping.is_aggregating
    then all_lowered b of_a_row (p.grouping.keys ++ inputs_in p.aggregates)
    else all_lowered b of_a_row p.shown

abbrev pub gathered_of : Plan → Gathered
gathered_of p = record { keys = p.grouping.keys; aggregates = p.aggregates }

abbrev pub last_of : Bounds → Plan → List Core
last_of b p =
    if p.grouping.is_aggregating then all_lowered b (gathered_of p) p.shown else []

abbrev pub sections_of : Bounds → Asked → Plan → Sections
sections_of b q p = record {
  filter = filtering (filter_of b q.filters.from) (filter_of b q.filters.filter);
  row = row_of b p;
  last = last_of b p;
}

-- ---- the program

-- the constants of the sections one behind the other
abbrev pub pool_of : Sections → List Constant
pool_of s = pooled [] (used s.filter ++ (all_used s.row ++ all_used s.last))

abbrev pub depth_of : Sections → ℕ
depth_of s = max (depth s.filter) (max (all_depth 0 s.row) (all_depth 0 s.last))

abbrev pub mode_of : Bool → Mode
mode_of true = Grouped
mode_of false = Plain

-- what is told of groups, where rows are grouped
abbrev pub of_groups : {A : Type 0} → Plan → List A → List A
of_groups p xs = if p.grouping.is_aggregating then xs else []

abbrev pub target_name : Target → List ℕ
target_name t = t.name

abbrev pub output_of : Asked → Plan → Output
output_of q p = record {
  is_distinct = q.distinct;
  is_descending = q.order.descending;
  limit = q.limit;
  targets = map target_name q.targets;
  hidden = length p.shown - length q.targets;
  order = p.order;
}

abbrev pub code_over : Bounds → Plan → Sections → Code
code_over b p s = record {
  keys = length (of_groups p p.grouping.keys);
  aggregates = of_groups p (map (aggregate_in b) p.aggregates);
  pool = pool_of s;
  filter = code (pool_of s) 0 s.filter;
  row = all_code (pool_of s) 0 s.row;
  last = all_code (pool_of s) 0 s.last;
}

abbrev pub parts_over : Bounds → Asked → Plan → Parts
parts_over b q p = record {
  bounds = b;
  mode = mode_of p.grouping.is_aggregating;
  output = output_of q p;
  code = code_over b p (sections_of b q p);
}

-- the program of a query by bounds
abbrev pub parts_of : Bounds → Asked → Parts
parts_of b q = parts_over b q (plan q)

-- ---- why there is none

-- a section or the pool is too long, or there are too many aggregates
abbrev pub IsTooLong : Parts → Type 0
IsTooLong p =
    LONGEST_SECTION < length p.code.filter ⊎ LONGEST_SECTION < length p.code.row
    ⊎ LONGEST_SECTION < length p.code.last ⊎ LONGEST_SECTION < length p.code.pool
    ⊎ MOST_ITEMS < length p.code.aggregates

-- more values would stand on the stack than it holds
abbrev pub IsTooDeep : Bounds → Asked → Type 0
IsTooDeep b q = MOST_VALUES < depth_of (sections_of b q (plan q))
