-- Wherever a run stands, the rows that it has are as wide as its program states.
use Rattle.std.proofs.Common.{◌≡◌, ℕ, zero, suc, ◌+◌, ◌==◌, Bool, true, false, List, [], ◌∷◌, ◌++◌}
use Rattle.std.proofs.Common.{length, reverse, Option, Some, None, option_map, refl, ◌∙◌}
use Rattle.std.proofs.Common.{if◌then◌else◌}
use Rattle.std.specs.Prelude.{take, drop, IfSome, ⊤}
use Rattle.std.proofs.lemmas.Bool.{eqb-true}
use Rattle.std.proofs.lemmas.List.{length-reverse}
use Rattle.std.specs.List.{AllByRecursion}
use Rattle.plain_machine.specs.Gathering.{Group, Keeping, inputs_of, put}
use Rattle.plain_machine.specs.PlainMachine.{Done, Fault, InFilter, InLast, InRow, Kept, Stand}
use Rattle.plain_machine.specs.PlainMachine.{after, begin, begin_filter, begin_last, begin_row, end_filter}
use Rattle.plain_machine.specs.PlainMachine.{end_last, end_row, filter_acts, go_on, go_on_last}
use Rattle.plain_machine.specs.PlainMachine.{grouped_with, in_filter, in_last, in_row, judged, kept_with}
use Rattle.plain_machine.specs.PlainMachine.{last_acts, nothing_kept, one_truth, row_acts, row_of}
use Rattle.plain_machine.specs.PlainMachine.{step, steps, width_of, with_groups}
use Rattle.plain_machine.specs.PlainMachine.{with_row, with_running}
use Rattle.plain_machine.specs.Finishing.{are_orderable}
use Rattle.plain_machine.specs.SectionRun.{Outcome, Standing, State, Stopped, one_step, start}
use Rattle.query_code.specs.QueryFile.{is_grouped}
use Rattle.query_code.specs.declared.program.Output.{Output}
use Rattle.query_code.specs.declared.program.Parts.{Parts}
use Rattle.query_rows.specs.Row.{Row}
use Rattle.query_values.specs.declared.value.Value.{Value}

-- each of them has so many values
abbrev pub Wide : ℕ → List (List Value) → Type 0
Wide n rows = AllByRecursion (λ row. length row ≡ n) rows

wide_behind : (n : ℕ) (rows : List (List Value)) (row : List Value) → Wide n rows → length row ≡ n
    → Wide n (rows ++ row ∷ [])
wide_behind n [] row are is = (is, tt)
wide_behind n (r ∷ rows) row are is = (are.0, wide_behind n rows row are.1 is)

row_by : (o : Output) (stack : List Value) (b : Bool) → (length stack == width_of o) ≡ b
    → IfSome (if b then Some (reverse stack) else None) (λ row. length row ≡ width_of o)
row_by o stack true is = length-reverse stack ∙ eqb-true (length stack) (width_of o) is
row_by o stack false is = tt

row_wide : (o : Output) (stack : List Value)
    → IfSome (row_of o stack) (λ row. length row ≡ width_of o)
row_wide o stack = row_by o stack (length stack == width_of o) refl

module _ (X : Type 0) (p : Parts) where
  -- the rows that a run has where it stands so
  abbrev pub StandsWide : Stand X → Type 0
  StandsWide (InFilter r rest k q s) = Wide (width_of p.output) k.rows
  StandsWide (InRow r rest k q s) = Wide (width_of p.output) k.rows
  StandsWide (InLast g rest rows q s) = Wide (width_of p.output) rows
  StandsWide (Done rows) = Wide (width_of p.output) rows
  StandsWide Fault = ⊤

  by_order : (rows : List (List Value)) → Wide (width_of p.output) rows → (b : Bool)
      → StandsWide (if b then Done rows else Fault)
  by_order rows are true = are
  by_order rows are false = tt

  last_by : (g : Group X) (rest : List (Group X)) (rows : List (List Value))
      → Wide (width_of p.output) rows → (b : Bool)
      → StandsWide (if b then Fault else InLast g rest rows 0 start)
  last_by g rest rows are true = tt
  last_by g rest rows are false = are

  begin_last_wide : (gs : List (Group X)) (rows : List (List Value))
      → Wide (width_of p.output) rows → StandsWide (begin_last p gs rows)
  begin_last_wide [] rows are = by_order rows are (are_orderable p.output.order rows)
  begin_last_wide (g ∷ rest) rows are = last_by g rest rows are (length p.code.last == 0)

  go_on_last_wide : (rest : List (Group X)) (rows : List (List Value))
      → Wide (width_of p.output) rows → (o : Option (List Value))
      → IfSome o (λ row. length row ≡ width_of p.output) → StandsWide (go_on_last p rest rows o)
  go_on_last_wide rest rows are None is = tt
  go_on_last_wide rest rows are (Some row) is =
      begin_last_wide rest (rows ++ row ∷ []) (wide_behind (width_of p.output) rows row are is)

  filter_by : (r : Row) (rest : List Row) (k : Kept X) → Wide (width_of p.output) k.rows
      → (b : Bool) → StandsWide (if b then Fault else InFilter r rest k 0 start)
  filter_by r rest k are true = tt
  filter_by r rest k are false = are

  begin_filter_wide : (rest : List Row) (k : Kept X) → Wide (width_of p.output) k.rows
      → StandsWide (begin_filter p rest k)
  begin_filter_wide [] k are = begin_last_wide k.groups k.rows are
  begin_filter_wide (r ∷ rest) k are = filter_by r rest k are (length p.code.filter == 0)

  go_on_wide : (rest : List Row) (o : Option (Kept X))
      → IfSome o (λ k. Wide (width_of p.output) k.rows) → StandsWide (go_on p rest o)
  go_on_wide rest None are = tt
  go_on_wide rest (Some k) are = begin_filter_wide rest k are

  grouped_by : (k : Kept X) → Wide (width_of p.output) k.rows → (o : Option (List (Group X)))
      → IfSome (option_map (with_groups k) o) (λ k. Wide (width_of p.output) k.rows)
  grouped_by k are None = tt
  grouped_by k are (Some groups) = are

  kept_by : (k : Kept X) → Wide (width_of p.output) k.rows → (o : Option (List Value))
      → IfSome o (λ row. length row ≡ width_of p.output)
      → IfSome (option_map (with_row k) o) (λ k. Wide (width_of p.output) k.rows)
  kept_by k are None is = tt
  kept_by k are (Some row) is = wide_behind (width_of p.output) k.rows row are is

  module _ (keep : Keeping X) where
    counted_by : (k : Kept X) → Wide (width_of p.output) k.rows → (values : List Value) (b : Bool)
        → IfSome (if b then option_map (with_groups k)
        (put keep k.groups (take p.code.keys values) (drop p.code.keys values)) else None)
        (λ k. Wide (width_of p.output) k.rows)
    counted_by k are values true =
        grouped_by k are (put keep k.groups (take p.code.keys values) (drop p.code.keys values))
    counted_by k are values false = tt

    mode_by : (k : Kept X) → Wide (width_of p.output) k.rows → (stack : List Value) (b : Bool)
        → IfSome (if b then grouped_with keep p k (reverse stack)
        else option_map (with_row k) (row_of p.output stack))
        (λ k. Wide (width_of p.output) k.rows)
    mode_by k are stack true =
        counted_by k are (reverse stack)
        (length (reverse stack) == p.code.keys + inputs_of p.code.aggregates)
    mode_by k are stack false = kept_by k are (row_of p.output stack) (row_wide p.output stack)

    end_row_wide : (rest : List Row) (k : Kept X) → Wide (width_of p.output) k.rows
        → (stack : List Value) → StandsWide (end_row keep p rest k stack)
    end_row_wide rest k are stack =
        go_on_wide rest (kept_with keep p k stack) (mode_by k are stack (is_grouped p.mode))

    row_begins_by : (r : Row) (rest : List Row) (k : Kept X) → Wide (width_of p.output) k.rows
        → (b : Bool) → StandsWide (if b then end_row keep p rest k [] else InRow r rest k 0 start)
    row_begins_by r rest k are true = end_row_wide rest k are []
    row_begins_by r rest k are false = are

    begin_row_wide : (r : Row) (rest : List Row) (o : Option (Kept X))
        → IfSome o (λ k. Wide (width_of p.output) k.rows)
        → StandsWide (begin_row keep p r rest o)
    begin_row_wide r rest None are = tt
    begin_row_wide r rest (Some k) are = row_begins_by r rest k are (length p.code.row == 0)

    running_by : (k : Kept X) → Wide (width_of p.output) k.rows → (o : Option Value)
        → IfSome (option_map (with_running k) o) (λ k. Wide (width_of p.output) k.rows)
    running_by k are None = tt
    running_by k are (Some running) = are

    judged_wide : (r : Row) (rest : List Row) (k : Kept X) → Wide (width_of p.output) k.rows
        → (o : Option Bool) → StandsWide (judged keep p r rest k o)
    judged_wide r rest k are None = tt
    judged_wide r rest k are (Some true) =
        begin_row_wide r rest (option_map (with_running k) (keep.running_on k.running r))
        (running_by k are (keep.running_on k.running r))
    judged_wide r rest k are (Some false) = begin_filter_wide rest k are

    -- ---- a step

    in_filter_by : (r : Row) (rest : List Row) (k : Kept X) → Wide (width_of p.output) k.rows
        → (q : ℕ) (s : State Value) (b : Bool)
        → StandsWide (if b then end_filter keep p r rest k s.stack else InFilter r rest k q s)
    in_filter_by r rest k are q s true = judged_wide r rest k are (one_truth s.stack)
    in_filter_by r rest k are q s false = are

    in_filter_wide : (r : Row) (rest : List Row) (k : Kept X) → Wide (width_of p.output) k.rows
        → (o : Outcome) → StandsWide (in_filter keep p r rest k o)
    in_filter_wide r rest k are Stopped = tt
    in_filter_wide r rest k are (Standing q s) =
        in_filter_by r rest k are q s (q == length p.code.filter)

    in_row_by : (r : Row) (rest : List Row) (k : Kept X) → Wide (width_of p.output) k.rows
        → (q : ℕ) (s : State Value) (b : Bool)
        → StandsWide (if b then end_row keep p rest k s.stack else InRow r rest k q s)
    in_row_by r rest k are q s true = end_row_wide rest k are s.stack
    in_row_by r rest k are q s false = are

    in_row_wide : (r : Row) (rest : List Row) (k : Kept X) → Wide (width_of p.output) k.rows
        → (o : Outcome) → StandsWide (in_row keep p r rest k o)
    in_row_wide r rest k are Stopped = tt
    in_row_wide r rest k are (Standing q s) = in_row_by r rest k are q s (q == length p.code.row)

    in_last_by : (g : Group X) (rest : List (Group X)) (rows : List (List Value))
        → Wide (width_of p.output) rows → (q : ℕ) (s : State Value) (b : Bool)
        → StandsWide (if b then end_last p rest rows s.stack else InLast g rest rows q s)
    in_last_by g rest rows are q s true =
        go_on_last_wide rest rows are (row_of p.output s.stack) (row_wide p.output s.stack)
    in_last_by g rest rows are q s false = are

    in_last_wide : (g : Group X) (rest : List (Group X)) (rows : List (List Value))
        → Wide (width_of p.output) rows → (o : Outcome)
        → StandsWide (in_last keep p g rest rows o)
    in_last_wide g rest rows are Stopped = tt
    in_last_wide g rest rows are (Standing q s) =
        in_last_by g rest rows are q s (q == length p.code.last)

    step_wide : (s : Stand X) → StandsWide s → StandsWide (step keep p s)
    step_wide (InFilter r rest k q s) are =
        in_filter_wide r rest k are (one_step p.code.filter (filter_acts p r) (Standing q s))
    step_wide (InRow r rest k q s) are =
        in_row_wide r rest k are (one_step p.code.row (row_acts p k.running r) (Standing q s))
    step_wide (InLast g rest rows q s) are =
        in_last_wide g rest rows are (one_step p.code.last (last_acts keep p g) (Standing q s))
    step_wide (Done rows) are = are
    step_wide Fault are = tt

    steps_wide : (m : ℕ) (s : Stand X) → StandsWide s → StandsWide (steps keep p m s)
    steps_wide zero s are = are
    steps_wide (suc m) s are = step_wide (steps keep p m s) (steps_wide m s are)

    pub after_wide : (ledger : List Row) (m : ℕ) → StandsWide (after keep p ledger m)
    after_wide ledger m = steps_wide m (begin p ledger) (begin_filter_wide ledger nothing_kept tt)
