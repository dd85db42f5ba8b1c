-- A run by whole sections: what each leaves, row after row, and then group after group.
use Rattle.std.specs.Prelude.{◌≡◌, ℕ, ◌+◌, ◌*◌, ◌<◌, ◌≤◌, ◌==◌, Bool, true, false, List, [], ◌∷◌}
use Rattle.std.specs.Prelude.{◌++◌, length, Option, Some, None, option_map, option_and_then}
use Rattle.std.specs.Prelude.{if◌then◌else◌}
use Rattle.query_values.specs.declared.operation.Aggregate.{Aggregate}
use Rattle.query_values.specs.declared.value.Value.{Value}
use Rattle.query_code.specs.declared.program.Parts.{Parts}
use Rattle.plain_machine.specs.Finishing.{are_orderable}
use Rattle.plain_machine.specs.Gathering.{Keeping, Group}
use Rattle.plain_machine.specs.PlainMachine.{Kept, Stand, Done, Fault, filter_acts, row_acts}
use Rattle.plain_machine.specs.PlainMachine.{last_acts, one_truth, row_of, kept_with}
use Rattle.plain_machine.specs.PlainMachine.{with_running, nothing_kept, begin, steps}
use Rattle.query_rows.specs.Row.{Row}
use Rattle.plain_machine.specs.SectionRun.{left_by}

abbrev pub filter_left : Parts → Row → Option (List Value)
filter_left p r = left_by p.code.filter (filter_acts p r)

abbrev pub row_left : Parts → Value → Row → Option (List Value)
row_left p running r = left_by p.code.row (row_acts p running r)

abbrev pub orderable : Parts → List (List Value) → Option (List (List Value))
orderable p rows = if are_orderable p.output.order rows then Some rows else None

module _ {X : Type 0} (keep : Keeping X) (p : Parts) where
  -- ---- the rows

  -- what is kept when the row section has run at a row that passed
  abbrev pub row_run : Row → Kept X → Option (Kept X)
  row_run r k = option_and_then (kept_with keep p k) (row_left p k.running r)

  abbrev pub row_taken : Row → Kept X → Bool → Option (Kept X)
  row_taken r k false = Some k
  row_taken r k true =
      option_and_then (row_run r) (option_map (with_running k) (keep.running_on k.running r))

  -- what is kept behind a row
  abbrev pub behind_row : Row → Kept X → Option (Kept X)
  behind_row r k = option_and_then (row_taken r k) (option_and_then one_truth (filter_left p r))

  -- what is kept behind all rows
  abbrev pub behind_rows : List Row → Kept X → Option (Kept X)
  behind_rows [] k = Some k
  behind_rows (r ∷ rest) k = option_and_then (behind_rows rest) (behind_row r k)

  -- ---- the groups

  abbrev pub last_left : Group X → Option (List Value)
  last_left g = left_by p.code.last (last_acts keep p g)

  -- the row that a group gives
  abbrev pub group_row : Group X → Option (List Value)
  group_row g =
      if length p.code.last == 0 then None else option_and_then (row_of p.output) (last_left g)

  -- the rows with those of the groups
  abbrev pub group_rows : List (Group X) → List (List Value) → Option (List (List Value))
  group_rows [] rows = Some rows
  group_rows (g ∷ rest) rows =
      option_and_then (λ row. group_rows rest (rows ++ row ∷ [])) (group_row g)

  abbrev pub rows_of : Kept X → Option (List (List Value))
  rows_of k = option_and_then (orderable p) (group_rows k.groups k.rows)

  -- the rows that the program gives over these rows of a ledger; none is a fault
  abbrev pub answer : List Row → Option (List (List Value))
  answer rows = option_and_then rows_of (behind_rows rows nothing_kept)

-- ---- how the steps come to it

abbrev pub stand_of : {X : Type 0} → Option (List (List Value)) → Stand X
stand_of None = Fault
stand_of (Some rows) = Done rows

abbrev pub group_count : {X : Type 0} → Option (Kept X) → ℕ
group_count None = 0
group_count (Some k) = length k.groups

-- so many steps for n rows and g groups
abbrev pub budget : Parts → ℕ → ℕ → ℕ
budget p n g = n * (length p.code.filter + length p.code.row) + g * length p.code.last

-- before an instruction
abbrev pub is_going : {X : Type 0} → Stand X → Bool
is_going (Done rows) = false
is_going Fault = false
is_going s = true

-- From one stand the machine comes to another in at most n steps. Each of them is made, since it
-- begins before an instruction.
pub record Reaches {X : Type 0} (keep : Keeping X) (p : Parts) (n : ℕ) (s t : Stand X) :
    Type 0 where
  pub count : ℕ
  pub within : count ≤ n
  pub comes : steps keep p count s ≡ t
  pub going : (k : ℕ) → k < count → is_going (steps keep p k s) ≡ true

-- Over each list of rows, each program comes to its answer, or to a fault where it has none, within
-- the budget of the rows and of the groups that they make.
abbrev pub ComesToItsAnswer : {X : Type 0} → (List Aggregate → Keeping X) → Type 0
ComesToItsAnswer keeping =
    (p : Parts) (rows : List Row)
    → Reaches (keeping p.code.aggregates) p
    (budget p (length rows)
    (group_count (behind_rows (keeping p.code.aggregates) p rows nothing_kept)))
    (begin p rows) (stand_of (answer (keeping p.code.aggregates) p rows))

-- An answer has no more rows than the ledger, and is reached within the budget of its own rows: one
-- for each group, where postings are grouped.
pub record IsReached {X : Type 0} (keep : Keeping X) (p : Parts) (ledger : List Row)
    (rows : List (List Value)) : Type 0 where
  pub few : length rows ≤ length ledger
  pub reaches : Reaches keep p (budget p (length ledger) (length rows)) (begin p ledger) (Done rows)

abbrev pub AnswersAreReached : {X : Type 0} → (List Aggregate → Keeping X) → Type 0
AnswersAreReached keeping =
    (p : Parts) (ledger : List Row) (rows : List (List Value))
    → answer (keeping p.code.aggregates) p ledger ≡ Some rows
    → IsReached (keeping p.code.aggregates) p ledger rows
