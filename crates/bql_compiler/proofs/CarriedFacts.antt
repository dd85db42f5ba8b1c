-- What comes out of a query's program is what the query answers.
use Rattle.std.proofs.Common.{◌≡◌, ℕ, not, Bool, true, false, cond, List, [], ◌∷◌, ◌++◌, length, map}
use Rattle.std.proofs.Common.{reverse, take, Option, Some, None, refl, sym, ap, ◌∙◌, subst, IfSome}
use Rattle.std.proofs.lemmas.List.{length-map, map-append}
use Rattle.std.specs.Prelude.{slice_index_or}
use Rattle.std.specs.List.{AllByRecursion, IsAmong}
use Rattle.limits.specs.declared.bounds.Bounds.{Bounds}
use Rattle.bql_code.specs.Code.{all_code}
use Rattle.bql_lowering.specs.Lowered.{Gathered, all_lowered, has, of_a_row}
use Rattle.bql_meaning.proofs.KeyFacts.{of_the_group}
use Rattle.bql_meaning.proofs.PlannedFacts.{rank_as_asked}
use Rattle.bql_meaning.proofs.TypedFacts.{keys_are_typed}
use Rattle.bql_meaning.specs.Answer as meaning
use Rattle.bql_meaning.specs.Answer.{alone, grouped, groups, keys_at, passes, passing, rows_of}
use Rattle.bql_meaning.specs.Keys.{HasNoAggregate, IsTypedKey}
use Rattle.bql_meaning.specs.Meaning.{value_of}
use Rattle.bql_meaning.specs.Reading.{Reading}
use Rattle.bql_parser.proofs.SmallLaw.{queries_are_small}
use Rattle.bql_parser.specs.Answer.{query_of}
use Rattle.bql_parser.specs.Asked.{Asked}
use Rattle.bql_parser.specs.declared.query.Query.{Query}
use Rattle.bql_plan.specs.Plan.{Plan, aggregates_in, plan}
use Rattle.bql_compiler.specs.Carried.{Carries}
use Rattle.bql_compiler.specs.Program.{gathered_of, inputs_in, mode_of, parts_of, target_name}
use Rattle.bql_tree.specs.Tree.{Tree}
use Rattle.bql_types.specs.Gathered.{aggregate_in}
use Rattle.bql_types.specs.Sought.{misplaced}
use Rattle.bql_types.specs.Typing.{Grouping, IsTyped, grouping_of}
use Rattle.bql_compiler.specs.Reads.{IsOrNone}
use Rattle.bql_compiler.specs.Sided.{IsSided}
use Rattle.plain_machine.proofs.AnswerFacts.{of_sections}
use Rattle.plain_machine.proofs.GroupingFacts.{are_groups}
use Rattle.plain_machine.specs.Answer.{Answer, Answers}
use Rattle.plain_machine.specs.Finishing.{ranked}
use Rattle.plain_machine.specs.Gathering.{Group, Keeping, aggregates_over, all_inputs}
use Rattle.plain_machine.specs.Grouping.{come_to, inputs_under, keys_of}
use Rattle.plain_machine.specs.PlainMachine.{balance_in, filter_loads, last_acts, last_loads}
use Rattle.plain_machine.specs.PlainMachine.{nothing_kept, row_acts, row_loads}
use Rattle.plain_machine.specs.SectionRun.{left_by}
use Rattle.plain_machine.specs.WholeRun.{group_rows, last_left}
use Rattle.query_code.specs.declared.program.Mode.{Mode}
use Rattle.query_code.specs.declared.program.Mode.TheVariants.{Plain, Grouped}
use Rattle.query_code.specs.declared.program.Parts.{Parts}
use Rattle.query_rows.specs.FinalRows.{IsFinal}
use Rattle.query_rows.specs.Grouping.{distinct_keys, members_of}
use Rattle.query_rows.specs.Row.{Row}
use Rattle.query_rows.specs.Same.{each_once, same_values}
use Rattle.query_values.specs.declared.value.Value.{Value}
use Rattle.query_values.specs.declared.value.Value.TheVariants.{Null}
use Rattle.bql_compiler.proofs.SchemeListFacts.{both_are, each_is}
use Rattle.bql_compiler.proofs.QueryFacts.{IsOfRows, IsPlanned, IsShown, inputs_of_rows, is_planned}
use Rattle.bql_compiler.proofs.QueryFacts.{typed_shape}
use Rattle.bql_compiler.proofs.InputFacts.{columns, come_is, inputs_at, over_columns, start_is}
use Rattle.bql_compiler.proofs.CarriedListFacts.{among_map, both_all, filter_map, map_map, map_same}
use Rattle.bql_compiler.proofs.CarriedListFacts.{no_value, some_is}
use Rattle.bql_compiler.proofs.PlainFacts.{none_inside, shown_are_counted}
use Rattle.bql_compiler.proofs.ReadFacts.{group_reads, row_reads}
use Rattle.bql_compiler.proofs.RunFacts.{Gives, IsOfKept, Judges, Shows, all_rows, grouped_rows}
use Rattle.bql_compiler.proofs.RunFacts.{of_kept, plain_rows}
use Rattle.bql_compiler.proofs.SectionFacts.{IsComputed, filter_judges, section_values}
use Rattle.bql_compiler.proofs.SidedFacts.{ArePlannedSided, planned_sided}

-- ---- what may be computed

none_counted : (P : Tree ℕ → Type 0) (ts : List (Tree ℕ)) → ts ≡ [] → AllByRecursion P ts
none_counted P ts e = subst (AllByRecursion P) (sym e) tt

of_a_row_computed : (b : Bounds) (t : Tree ℕ) → IsOfRows b t → IsSided t → IsComputed b of_a_row t
of_a_row_computed b t h sided =
    let s = typed_shape b t h.typed in
    record {
      shape = s.0;
      shaped = s.1;
      small = h.typed.small;
      sided = sided;
      counted = none_counted (λ a. has of_a_row.aggregates a ≡ true) (aggregates_in t) (none_inside b t h.typed.whole h.plain);
    }

if_computed : (b : Bounds) (o : Option (Tree ℕ)) → IfSome o (IsOfRows b) → IfSome o IsSided
    → IfSome o (IsComputed b of_a_row)
if_computed b None h k = tt
if_computed b (Some t) h k = of_a_row_computed b t h k

rows_computed : (b : Bounds) (ts : List (Tree ℕ)) → AllByRecursion (IsOfRows b) ts
    → AllByRecursion IsSided ts → AllByRecursion (IsComputed b of_a_row) ts
rows_computed b [] h k = tt
rows_computed b (t ∷ ts) h k = (of_a_row_computed b t h.0 k.0, rows_computed b ts h.1 k.1)

-- what is shown of rows that aren't grouped
shown_computed : (b : Bounds) (g : Grouping) → g.is_aggregating ≡ false → (ts : List (Tree ℕ))
    → AllByRecursion (IsShown b g) ts → AllByRecursion IsSided ts
    → AllByRecursion (IsComputed b of_a_row) ts
shown_computed b g plain [] h k = tt
shown_computed b g plain (t ∷ ts) h k =
    let s = typed_shape b t h.0.typed in
    let placed : misplaced b true t ≡ [] =
    ap (λ is. misplaced b (not is) t) (sym plain) ∙ h.0.placed in (
      record {
        shape = s.0;
        shaped = s.1;
        small = h.0.typed.small;
        sided = k.0;
        counted = none_counted (λ a. has of_a_row.aggregates a ≡ true) (aggregates_in t) (none_inside b t h.0.typed.whole placed);
      },
      shown_computed b g plain ts h.1 k.1,
    )

-- and of groups
groups_computed : (b : Bounds) (g : Grouping) (gathered : Gathered) (ts : List (Tree ℕ))
    → AllByRecursion (IsShown b g) ts → AllByRecursion IsSided ts
    → AllByRecursion
    (λ t. AllByRecursion (λ a. has gathered.aggregates a ≡ true) (aggregates_in t)) ts
    → AllByRecursion (IsComputed b gathered) ts
groups_computed b g gathered [] h k all = tt
groups_computed b g gathered (t ∷ ts) h k all =
    let s = typed_shape b t h.0.typed in (
      record {
        shape = s.0;
        shaped = s.1;
        small = h.0.typed.small;
        sided = k.0;
        counted = all.0;
      },
      groups_computed b g gathered ts h.1 k.1 all.1,
    )

keys_plain : (b : Bounds) (ts : List (Tree ℕ)) → AllByRecursion (IsTypedKey b) ts
    → AllByRecursion HasNoAggregate ts
keys_plain b [] h = tt
keys_plain b (t ∷ ts) h = (h.0.plain, keys_plain b ts h.1)

-- ---- the program of a query

module _ (b : Bounds) (query : Query) (typed : IsTyped b (query_of query)) where
  abbrev q : Asked
  q = query_of query

  abbrev pl : Plan
  pl = plan (query_of query)

  abbrev p : Parts
  p = parts_of b (query_of query)

  abbrev g : Grouping
  g = grouping_of (query_of query)

  planned : IsPlanned b (query_of query)
  planned = is_planned b (query_of query) typed (queries_are_small query)

  sided : ArePlannedSided (query_of query)
  sided = planned_sided query

  abbrev keep : Keeping (List (List Value))
  keep = all_inputs (parts_of b (query_of query)).code.aggregates

  -- what is shown of a row or of a group
  abbrev Shown : List Reading → List Value
  Shown rows = map (value_of b rows) (plan (query_of query)).shown

  judges : Judges p (passes b q.filters)
  judges r t e =
      filter_judges b p.code.pool (filter_loads b.schema r) r
      (row_reads b b.schema None r Null (λ v e. absurd (no_value v e)))
      q.filters.from q.filters.filter (if_computed b q.filters.from planned.from sided.from)
      (if_computed b q.filters.filter planned.filter sided.filter) t e

  -- the running inventory, where it is loaded
  balance_given : (m : Mode) (running : Value) → IsOrNone (balance_in m running) running
  balance_given Plain running v e = some_is running v e
  balance_given Grouped running v e = absurd (no_value v e)

  row_section : (ts : List (Tree ℕ)) → AllByRecursion (IsComputed b of_a_row) ts
      → p.code.row ≡ all_code p.code.pool 0 (all_lowered b of_a_row ts)
      → Shows p (λ x. map (value_of b (x ∷ [])) ts)
  row_section ts all is running r stack e =
      section_values b p.code.pool
      (row_loads b.schema p.mode running r) of_a_row
      (record { row = r; balance = running } ∷ [])
      (row_reads b b.schema (balance_in p.mode running) r running (balance_given p.mode running)) ts all
      stack (sym (ap (λ c. left_by c (row_acts p running r)) is) ∙ e)

  -- ---- rows that aren't grouped

  module _ (plain : g.is_aggregating ≡ false) where
    plain_mode : p.mode ≡ Plain
    plain_mode = ap mode_of plain

    plain_row : p.code.row ≡ all_code p.code.pool 0 (all_lowered b of_a_row pl.shown)
    plain_row = ap (λ is. all_code p.code.pool 0
        (cond is (all_lowered b of_a_row (pl.grouping.keys ++ inputs_in pl.aggregates))
        (all_lowered b of_a_row pl.shown))) plain

    plain_answer : (ledger : List Row) (rows : List (List Value)) → IsOfKept keep p ledger rows
        → rows ≡ map Shown (grouped b g (passing b q.filters ledger))
    plain_answer ledger rows k =
        let one = λ (x : Reading). Shown (x ∷ []) in
        let h = plain_rows keep (λ v r. refl) p (passes b q.filters) judges one
        (row_section pl.shown (shown_computed b g plain pl.shown planned.shown sided.shown) plain_row)
        plain_mode ledger [] nothing_kept k.kept refl k.behind in
        sym (some_is k.kept.rows rows
        (ap (λ gs. group_rows keep p gs k.kept.rows) (sym h.1) ∙ k.gives))
        ∙ h.0
        ∙ sym (map_map Shown (λ r. r ∷ []) (passing b q.filters ledger))
        ∙ ap (λ is. map Shown (cond is (groups b g.keys (passing b q.filters ledger))
        (alone (passing b q.filters ledger)))) (sym plain)

  -- ---- rows that are grouped

  module _ (aggregating : g.is_aggregating ≡ true) where
    grouped_mode : p.mode ≡ Grouped
    grouped_mode = ap mode_of aggregating

    grouped_row : p.code.row
        ≡ all_code p.code.pool 0 (all_lowered b of_a_row (g.keys ++ inputs_in pl.aggregates))
    grouped_row = ap (λ is. all_code p.code.pool 0
        (cond is (all_lowered b of_a_row (pl.grouping.keys ++ inputs_in pl.aggregates))
        (all_lowered b of_a_row pl.shown))) aggregating

    last_section : p.code.last ≡ all_code p.code.pool 0 (all_lowered b (gathered_of pl) pl.shown)
    last_section = ap (λ is. all_code p.code.pool 0
        (cond is (all_lowered b (gathered_of pl) pl.shown) [])) aggregating

    aggregates_are : p.code.aggregates ≡ map (aggregate_in b) pl.aggregates
    aggregates_are = ap (λ is. cond is (map (aggregate_in b) pl.aggregates) []) aggregating

    keys_long : (x : Reading) → length (keys_at b g.keys x) ≡ p.code.keys
    keys_long x =
        length-map g.keys (value_of b (x ∷ []))
        ∙ sym (ap (λ is. length (cond is g.keys [])) aggregating)

    row_computed : AllByRecursion (IsComputed b of_a_row) (g.keys ++ inputs_in pl.aggregates)
    row_computed =
        both_are (IsComputed b of_a_row) g.keys (inputs_in pl.aggregates)
        (rows_computed b g.keys planned.keys sided.keys)
        (rows_computed b (inputs_in pl.aggregates)
        (inputs_of_rows b g pl.aggregates planned.aggregates aggregating) sided.inputs)

    module _ (rs : List Reading) where
      abbrev member : Reading → List Value × List Value
      member x = (keys_at b g.keys x, inputs_at b pl.aggregates x)

      abbrev those : List Value → List Reading
      those keys = members_of (keys_at b g.keys) rs keys

      -- the keys of the members are those of the rows
      keys_same : distinct_keys keys_of (map member rs) ≡ distinct_keys (keys_at b g.keys) rs
      keys_same = ap (each_once []) (map_map keys_of member rs)

      -- and so are the inputs of those with the same keys
      inputs_same : (keys : List Value)
          → inputs_under keys (map member rs) ≡ map (inputs_at b pl.aggregates) (those keys)
      inputs_same keys =
          ap (map (λ (m : List Value × List Value). m.1))
          (filter_map member (λ m. same_values (keys_of m) keys) rs)
          ∙ map_map (λ (m : List Value × List Value). m.1) member (those keys)

      module _ (gr : Group (List (List Value)))
          (come : come_to keep keep.start (inputs_under gr.0 (map member rs)) ≡ Some gr.1)
          (among : IsAmong (distinct_keys (keys_at b g.keys) rs) gr.0) where
        gathered_is : gr.1 ≡ columns b pl.aggregates (those gr.0)
        gathered_is =
            come_is b g pl.aggregates planned.aggregates (those gr.0) [] gr.1
            (sym (ap (λ start. come_to (all_inputs (map (aggregate_in b) pl.aggregates)) start
            (map (inputs_at b pl.aggregates) (those gr.0))) (start_is b pl.aggregates))
            ∙ sym (λ i. come_to (all_inputs (aggregates_are i)) (all_inputs (aggregates_are i)).start
            (inputs_same gr.0 i)) ∙ come)

        keys_are : gr.0 ≡ map (value_of b (those gr.0)) g.keys
        keys_are =
            sym (of_the_group b g.keys rs gr.0
            (keys_plain b g.keys (keys_are_typed b query typed)) among)

        totals_are : keep.values gr.1 ≡ map (value_of b (those gr.0)) pl.aggregates
        totals_are =
            (λ i. aggregates_over (aggregates_are i) (gathered_is i))
            ∙ over_columns b g pl.aggregates planned.aggregates (those gr.0)

        gives : (stack : List Value) → last_left keep p gr ≡ Some stack
            → reverse stack ≡ Shown (those gr.0)
        gives stack e =
            section_values b p.code.pool
            (last_loads b.schema gr.0 (keep.values gr.1))
            (gathered_of pl) (those gr.0)
            (group_reads b b.schema (those gr.0) g.keys pl.aggregates gr.0 (keep.values gr.1) keys_are
            totals_are)
            pl.shown
            (groups_computed b g (gathered_of pl) pl.shown planned.shown sided.shown
            (shown_are_counted q)) stack
            (sym (ap (λ c. left_by c (last_acts keep p gr)) last_section) ∙ e)

      abbrev of_group : Group (List (List Value)) → List Value
      of_group gr = Shown (those gr.0)

    grouped_answer : (ledger : List Row) (rows : List (List Value)) → IsOfKept keep p ledger rows
        → rows ≡ map Shown (grouped b g (passing b q.filters ledger))
    grouped_answer ledger rows k =
        let rs = passing b q.filters ledger in
        let h = grouped_rows keep (λ v r. refl) p (passes b q.filters) judges
        (λ (x : Reading). map (value_of b (x ∷ [])) (g.keys ++ inputs_in pl.aggregates))
        (row_section (g.keys ++ inputs_in pl.aggregates) row_computed grouped_row)
        (keys_at b g.keys) (inputs_at b pl.aggregates)
        (λ x. map-append (value_of b (x ∷ [])) g.keys (inputs_in pl.aggregates)) keys_long grouped_mode
        ledger [] nothing_kept k.kept refl k.behind in
        let gs = k.kept.groups in
        let are = are_groups keep (map (member rs) rs) gs h.0 in
        let told = are.keys ∙ keys_same rs in
        let among = subst
        (λ ks. AllByRecursion (λ (gr : Group (List (List Value))). IsAmong ks gr.0) gs) told
        (among_map (λ (gr : Group (List (List Value))). gr.0) gs) in
        let all = each_is
        (λ (gr : Group (List (List Value))).
        (come_to keep keep.start (inputs_under gr.0 (map (member rs) rs)) ≡ Some gr.1)
        × IsAmong (distinct_keys (keys_at b g.keys) rs) gr.0)
        (Gives keep p (of_group rs)) (λ gr e. gives rs gr e.0 e.1) gs
        (both_all
        (λ (gr : Group (List (List Value))). come_to keep keep.start (inputs_under gr.0 (map (member rs) rs)) ≡ Some gr.1)
        (λ (gr : Group (List (List Value))). IsAmong (distinct_keys (keys_at b g.keys) rs) gr.0)
        gs are.each among) in
        all_rows keep p (of_group rs) gs k.kept.rows rows all k.gives
        ∙ ap (λ l. l ++ map (of_group rs) gs) h.1
        ∙ sym (map_map (λ ks. Shown (those rs ks)) (λ (gr : Group (List (List Value))). gr.0) gs)
        ∙ ap (map (λ ks. Shown (those rs ks))) told
        ∙ sym (map_map Shown (those rs) (distinct_keys (keys_at b g.keys) rs))
        ∙ ap (λ is. map Shown (cond is (groups b g.keys rs) (alone rs))) (sym aggregating)

  -- ---- either

  the_answer : (ledger : List Row) (rows : List (List Value)) → IsOfKept keep p ledger rows
      → rows ≡ map Shown (grouped b g (passing b q.filters ledger))
  the_answer ledger rows k = by g.is_aggregating refl
    where
      by : (is : Bool) → g.is_aggregating ≡ is
          → rows ≡ map Shown (grouped b g (passing b q.filters ledger))
      by true e = grouped_answer e ledger rows k
      by false e = plain_answer e ledger rows k

  -- a row of the program is ranked as the query asks
  ranked_as_asked : (rs : List Reading) → ranked p.output (Shown rs) ≡ meaning.row_of b q rs
  ranked_as_asked rs =
      (λ i. record {
        shown = take (length-map q.targets target_name i) (Shown rs);
        ranks = map (λ j. slice_index_or (Shown rs) j Null) pl.order;
      })
      ∙ rank_as_asked b query rs

  final_rows : (ledger : List Row) (a : Answer) → Answers p ledger a
      → map (ranked p.output) a.rows ≡ rows_of b q ledger
  final_rows ledger a is =
      ap (map (ranked p.output))
      (the_answer ledger a.rows (of_kept keep p ledger a.rows (of_sections p ledger a is)))
      ∙ map_map (ranked p.output) Shown (grouped b g (passing b q.filters ledger))
      ∙ map_same (λ rs. ranked p.output (Shown rs)) (meaning.row_of b q) ranked_as_asked
      (grouped b g (passing b q.filters ledger))

pub carries : (b : Bounds) (query : Query) → IsTyped b (query_of query)
    → Carries b (parts_of b (query_of query)) (query_of query)
carries b query typed = record {
  names = refl;
  answers = λ ledger a is.
      subst (λ rows. IsFinal (meaning.finish_of (query_of query)) rows a.final)
      (final_rows b query typed ledger a is) is.comes_out;
}
