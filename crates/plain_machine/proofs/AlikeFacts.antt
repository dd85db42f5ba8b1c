-- Runs over groups that keep other things stand alike, where what is kept goes along.
use Rattle.std.proofs.Common.{◌≡◌, ℕ, zero, suc, List, [], ◌∷◌, ◌++◌, ◌+◌, length, map, take, drop}
use Rattle.std.proofs.Common.{reverse, Option, Some, None, Bool, true, false, cond, ◌&&◌, refl, sym}
use Rattle.std.proofs.Common.{ap, ◌∙◌}
use Rattle.std.specs.Prelude.{nat_eq, option_map, option_and_then}
use Rattle.query_values.proofs.AggregateFacts.{gathered_more}
use Rattle.query_values.specs.Aggregate.{aggregate_of, may_take}
use Rattle.query_values.specs.Held.{is_held}
use Rattle.query_values.specs.declared.operation.Aggregate.{Aggregate}
use Rattle.query_values.specs.declared.value.Value.{Value}
use Rattle.query_code.specs.QueryFile.{is_grouped}
use Rattle.query_code.specs.declared.program.Parts.{Parts}
use Rattle.plain_machine.specs.Alike.{group_as, kept_as, stand_as}
use Rattle.plain_machine.specs.Finishing.{are_orderable}
use Rattle.query_rows.specs.Same.{same_values}
use Rattle.plain_machine.specs.Gathering.{Keeping, Group, inputs_of, next_input, cons_if, take_each}
use Rattle.plain_machine.specs.Gathering.{with_input, aggregates_over, all_inputs, with_value}
use Rattle.plain_machine.specs.Gathering.{running_values, group_if, put}
use Rattle.plain_machine.specs.PlainMachine.{Kept, Stand, InFilter, InRow, InLast, Done, Fault}
use Rattle.plain_machine.specs.PlainMachine.{one_truth, row_of, with_running}
use Rattle.plain_machine.specs.PlainMachine.{with_groups, with_row, grouped_with, kept_with}
use Rattle.plain_machine.specs.PlainMachine.{nothing_kept, ended, begin_last, begin_filter, go_on}
use Rattle.plain_machine.specs.PlainMachine.{end_row, begin_row, judged, end_filter, go_on_last}
use Rattle.plain_machine.specs.PlainMachine.{end_last, in_filter, in_row, in_last, filter_acts}
use Rattle.plain_machine.specs.PlainMachine.{row_acts, last_acts, step, after, last_loads}
use Rattle.plain_machine.specs.Loading.{value_acts}
use Rattle.query_rows.specs.Row.{Row}
use Rattle.plain_machine.specs.SectionRun.{start, Outcome, Standing, Stopped, one_step}

-- what one keeping keeps is, as f sees it, what another keeps
pub record Carries {X Y : Type 0} (K : Keeping X) (L : Keeping Y) (f : X → Y) : Type 0 where
  pub start : f K.start ≡ L.start
  pub add : (x : X) (inputs : List Value) → option_map f (K.add x inputs) ≡ L.add (f x) inputs
  pub values : (x : X) → L.values (f x) ≡ K.values x
  pub running : (v : Value) (r : Row) → K.running_on v r ≡ L.running_on v r

module _ {X Y : Type 0} (f : X
    → Y) (K : Keeping X) (L : Keeping Y) (c : Carries K L f) (p : Parts) where
  if_as : {A B : Type 0} (g : A → B) (b : Bool) (x y : A) → g (cond b x y) ≡ cond b (g x) (g y)
  if_as g true x y = refl
  if_as g false x y = refl

  group_if_as : (keys : List Value) (o : Option X) (groups : List (Group X))
      → option_map (map (group_as f)) (group_if keys o groups)
      ≡ group_if keys (option_map f o) (map (group_as f) groups)
  group_if_as keys None groups = refl
  group_if_as keys (Some x) groups = refl

  cons_if_as : (g : Group X) (o : Option (List (Group X)))
      → option_map (map (group_as f)) (cons_if (Some g) o)
      ≡ cons_if (Some (group_as f g)) (option_map (map (group_as f)) o)
  cons_if_as g None = refl
  cons_if_as g (Some groups) = refl

  put_as : (groups : List (Group X)) (keys inputs : List Value)
      → option_map (map (group_as f)) (put K groups keys inputs)
      ≡ put L (map (group_as f) groups) keys inputs
  put_as [] keys inputs =
      group_if_as keys (K.add K.start inputs) []
      ∙ ap (λ o. group_if keys o []) (c.add K.start inputs ∙ ap (λ x. L.add x inputs) c.start)
  put_as (g ∷ groups) keys inputs =
      if_as (option_map (map (group_as f))) (same_values keys g.0)
      (group_if g.0 (K.add g.1 inputs) groups) (cons_if (Some g) (put K groups keys inputs))
      ∙ (λ i. cond (same_values keys g.0)
      ((group_if_as g.0 (K.add g.1 inputs) groups
      ∙ ap (λ o. group_if g.0 o (map (group_as f) groups)) (c.add g.1 inputs)) i)
      ((cons_if_as g (put K groups keys inputs)
      ∙ ap (cons_if (Some (group_as f g))) (put_as groups keys inputs)) i))

  with_groups_as : (k : Kept X) (o : Option (List (Group X)))
      → option_map (kept_as f) (option_map (with_groups k) o)
      ≡ option_map (with_groups (kept_as f k)) (option_map (map (group_as f)) o)
  with_groups_as k None = refl
  with_groups_as k (Some groups) = refl

  with_running_as : (k : Kept X) (o : Option Value)
      → option_map (kept_as f) (option_map (with_running k) o)
      ≡ option_map (with_running (kept_as f k)) o
  with_running_as k None = refl
  with_running_as k (Some running) = refl

  with_row_as : (k : Kept X) (o : Option (List Value))
      → option_map (kept_as f) (option_map (with_row k) o) ≡ option_map (with_row (kept_as f k)) o
  with_row_as k None = refl
  with_row_as k (Some row) = refl

  grouped_as : (k : Kept X) (values : List Value)
      → option_map (kept_as f) (grouped_with K p k values) ≡ grouped_with L p (kept_as f k) values
  grouped_as k values = by (nat_eq (length values) (p.code.keys + inputs_of p.code.aggregates))
    where
      keys : List Value
      keys = take p.code.keys values

      inputs : List Value
      inputs = drop p.code.keys values

      by : (b : Bool)
          → option_map (kept_as f)
          (cond b (option_map (with_groups k) (put K k.groups keys inputs)) None)
          ≡ cond b (option_map (with_groups (kept_as f k))
          (put L (map (group_as f) k.groups) keys inputs)) None
      by true =
          with_groups_as k (put K k.groups keys inputs)
          ∙ ap (option_map (with_groups (kept_as f k))) (put_as k.groups keys inputs)
      by false = refl

  kept_with_as : (k : Kept X) (stack : List Value)
      → option_map (kept_as f) (kept_with K p k stack) ≡ kept_with L p (kept_as f k) stack
  kept_with_as k stack = by (is_grouped p.mode)
    where
      by : (b : Bool)
          → option_map (kept_as f)
          (cond b (grouped_with K p k (reverse stack))
          (option_map (with_row k) (row_of p.output stack)))
          ≡ cond b (grouped_with L p (kept_as f k) (reverse stack))
          (option_map (with_row (kept_as f k)) (row_of p.output stack))
      by true = grouped_as k (reverse stack)
      by false = with_row_as k (row_of p.output stack)

  ended_as : (rows : List (List Value)) → stand_as f (ended p rows) ≡ ended p rows
  ended_as rows = if_as (stand_as f) (are_orderable p.output.order rows) (Done rows) Fault

  begin_last_as : (groups : List (Group X)) (rows : List (List Value))
      → stand_as f (begin_last p groups rows) ≡ begin_last p (map (group_as f) groups) rows
  begin_last_as [] rows = ended_as rows
  begin_last_as (g ∷ rest) rows =
      if_as (stand_as f) (nat_eq (length p.code.last) 0) Fault (InLast g rest rows 0 start)

  begin_filter_as : (rows : List Row) (k : Kept X)
      → stand_as f (begin_filter p rows k) ≡ begin_filter p rows (kept_as f k)
  begin_filter_as [] k = begin_last_as k.groups k.rows
  begin_filter_as (r ∷ rest) k =
      if_as (stand_as f) (nat_eq (length p.code.filter) 0) Fault (InFilter r rest k 0 start)

  go_on_as : (rest : List Row) (o : Option (Kept X))
      → stand_as f (go_on p rest o) ≡ go_on p rest (option_map (kept_as f) o)
  go_on_as rest None = refl
  go_on_as rest (Some k) = begin_filter_as rest k

  end_row_as : (rest : List Row) (k : Kept X) (stack : List Value)
      → stand_as f (end_row K p rest k stack) ≡ end_row L p rest (kept_as f k) stack
  end_row_as rest k stack =
      go_on_as rest (kept_with K p k stack) ∙ ap (go_on p rest) (kept_with_as k stack)

  begin_row_as : (r : Row) (rest : List Row) (o : Option (Kept X))
      → stand_as f (begin_row K p r rest o) ≡ begin_row L p r rest (option_map (kept_as f) o)
  begin_row_as r rest None = refl
  begin_row_as r rest (Some k) =
      if_as (stand_as f) (nat_eq (length p.code.row) 0) (end_row K p rest k [])
      (InRow r rest k 0 start)
      ∙ ap (λ x. cond (nat_eq (length p.code.row) 0) x (InRow r rest (kept_as f k) 0 start))
      (end_row_as rest k [])

  judged_as : (r : Row) (rest : List Row) (k : Kept X) (o : Option Bool)
      → stand_as f (judged K p r rest k o) ≡ judged L p r rest (kept_as f k) o
  judged_as r rest k None = refl
  judged_as r rest k (Some true) =
      begin_row_as r rest (option_map (with_running k) (K.running_on k.running r))
      ∙ ap (begin_row L p r rest)
      (with_running_as k (K.running_on k.running r)
      ∙ ap (option_map (with_running (kept_as f k))) (c.running k.running r))
  judged_as r rest k (Some false) = begin_filter_as rest k

  go_on_last_as : (rest : List (Group X)) (rows : List (List Value)) (o : Option (List Value))
      → stand_as f (go_on_last p rest rows o) ≡ go_on_last p (map (group_as f) rest) rows o
  go_on_last_as rest rows None = refl
  go_on_last_as rest rows (Some row) = begin_last_as rest (rows ++ row ∷ [])

  in_filter_as : (r : Row) (rest : List Row) (k : Kept X) (o : Outcome)
      → stand_as f (in_filter K p r rest k o) ≡ in_filter L p r rest (kept_as f k) o
  in_filter_as r rest k Stopped = refl
  in_filter_as r rest k (Standing q s) =
      if_as (stand_as f) (nat_eq q (length p.code.filter)) (end_filter K p r rest k s.stack)
      (InFilter r rest k q s)
      ∙ ap (λ x. cond (nat_eq q (length p.code.filter)) x (InFilter r rest (kept_as f k) q s))
      (judged_as r rest k (one_truth s.stack))

  in_row_as : (r : Row) (rest : List Row) (k : Kept X) (o : Outcome)
      → stand_as f (in_row K p r rest k o) ≡ in_row L p r rest (kept_as f k) o
  in_row_as r rest k Stopped = refl
  in_row_as r rest k (Standing q s) =
      if_as (stand_as f) (nat_eq q (length p.code.row)) (end_row K p rest k s.stack)
      (InRow r rest k q s)
      ∙ ap (λ x. cond (nat_eq q (length p.code.row)) x (InRow r rest (kept_as f k) q s))
      (end_row_as rest k s.stack)

  in_last_as : (g : Group X) (rest : List (Group X)) (rows : List (List Value)) (o : Outcome)
      → stand_as f (in_last K p g rest rows o)
      ≡ in_last L p (group_as f g) (map (group_as f) rest) rows o
  in_last_as g rest rows Stopped = refl
  in_last_as g rest rows (Standing q s) =
      if_as (stand_as f) (nat_eq q (length p.code.last)) (end_last p rest rows s.stack)
      (InLast g rest rows q s)
      ∙ ap (λ x. cond (nat_eq q (length p.code.last)) x
      (InLast (group_as f g) (map (group_as f) rest) rows q s))
      (go_on_last_as rest rows (row_of p.output s.stack))

  step_as : (s : Stand X) → stand_as f (step K p s) ≡ step L p (stand_as f s)
  step_as (InFilter r rest k q s) =
      in_filter_as r rest k (one_step p.code.filter (filter_acts p r) (Standing q s))
  step_as (InRow r rest k q s) =
      in_row_as r rest k (one_step p.code.row (row_acts p k.running r) (Standing q s))
  step_as (InLast g rest rows q s) =
      in_last_as g rest rows (one_step p.code.last (last_acts K p g) (Standing q s))
      ∙ ap (λ v. in_last L p (group_as f g) (map (group_as f) rest) rows
      (one_step p.code.last (value_acts p.code.pool (last_loads p.bounds.schema g.0 v)) (Standing q s)))
      (sym (c.values g.1))
  step_as (Done rows) = refl
  step_as Fault = refl

  pub after_as : (rows : List Row) (n : ℕ) → stand_as f (after K p rows n) ≡ after L p rows n
  after_as rows zero = begin_filter_as rows nothing_kept
  after_as rows (suc n) = step_as (after K p rows n) ∙ ap (step L p) (after_as rows n)

-- ---- the inputs, and what is gathered of them

value_of_input : (a : Aggregate) (xs : List Value) (x : Value)
    → option_map (aggregate_of a) (with_input a xs x) ≡ with_value a (aggregate_of a xs) x
value_of_input a xs x =
    by (may_take a (aggregate_of a xs) x && is_held (aggregate_of a (xs ++ x ∷ [])))
    ∙ ap (λ v. cond (may_take a (aggregate_of a xs) x && is_held v) (Some v) None)
    (gathered_more a xs x)
  where
    by : (b : Bool)
        → option_map (aggregate_of a) (cond b (Some (xs ++ x ∷ [])) None)
        ≡ cond b (Some (aggregate_of a (xs ++ x ∷ []))) None
    by true = refl
    by false = refl

module _ (a : Aggregate) (aggregates : List Aggregate) where
  abbrev over : List (List Value) → List Value
  over = aggregates_over (a ∷ aggregates)

  cons_over : (o : Option (List Value)) (rest : Option (List (List Value)))
      → option_map over (cons_if o rest)
      ≡ cons_if (option_map (aggregate_of a) o) (option_map (aggregates_over aggregates) rest)
  cons_over None rest = refl
  cons_over (Some xs) None = refl
  cons_over (Some xs) (Some lists) = refl

each_taken : (aggregates : List Aggregate) (lists : List (List Value)) (inputs : List Value)
    → option_map (aggregates_over aggregates) (take_each with_input aggregates lists inputs)
    ≡ take_each with_value aggregates (aggregates_over aggregates lists) inputs
each_taken [] lists [] = refl
each_taken [] lists (x ∷ inputs) = refl
each_taken (a ∷ aggregates) [] inputs = refl
each_taken (a ∷ aggregates) (xs ∷ lists) inputs =
    by (next_input a inputs) (each_taken aggregates lists)
  where
    by : (o : Option (Value × List Value))
        → ((inputs : List Value)
        → option_map (aggregates_over aggregates) (take_each with_input aggregates lists inputs)
        ≡ take_each with_value aggregates (aggregates_over aggregates lists) inputs)
        → option_map (aggregates_over (a ∷ aggregates))
        (option_and_then
        (λ i. cons_if (with_input a xs i.0) (take_each with_input aggregates lists i.1)) o)
        ≡ option_and_then
        (λ i. cons_if (with_value a (aggregate_of a xs) i.0)
        (take_each with_value aggregates (aggregates_over aggregates lists) i.1)) o
    by None rest = refl
    by (Some i) rest =
        cons_over a aggregates (with_input a xs i.0) (take_each with_input aggregates lists i.1)
        ∙ (λ k. cons_if (value_of_input a xs i.0 k) (rest i.1 k))

start_values : (aggregates : List Aggregate)
    → aggregates_over aggregates (map (λ a. []) aggregates)
    ≡ map (λ a. aggregate_of a []) aggregates
start_values [] = refl
start_values (a ∷ aggregates) = ap (λ vs. aggregate_of a [] ∷ vs) (start_values aggregates)

inputs_carried : (aggregates : List Aggregate)
    → Carries (all_inputs aggregates) (running_values aggregates) (aggregates_over aggregates)
inputs_carried aggregates = record {
  start = start_values aggregates;
  add = each_taken aggregates;
  values = λ lists. refl;
  running = λ v r. refl;
}

pub stand_alike : (p : Parts) (rows : List Row) (n : ℕ)
    → stand_as (aggregates_over p.code.aggregates) (after (all_inputs p.code.aggregates) p rows n)
    ≡ after (running_values p.code.aggregates) p rows n
stand_alike p rows n =
    after_as (aggregates_over p.code.aggregates) (all_inputs p.code.aggregates)
    (running_values p.code.aggregates) (inputs_carried p.code.aggregates) p rows n
