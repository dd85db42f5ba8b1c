-- Each step of a well shaped program leads from a stand whose values lie in its shapes to another.
use Rattle.std.proofs.Common.{◌≡◌, ℕ, zero, suc, ◌+◌, ◌<◌, ◌≤◌, List, [], ◌∷◌, ◌++◌, length}
use Rattle.std.proofs.Common.{reverse, Option, Some, None, Bool, true, false, cond, refl, sym}
use Rattle.std.proofs.Common.{subst, inl, inr, arith}
use Rattle.std.specs.Prelude.{nat_eq, option_map}
use Rattle.std.specs.List.{AllByRecursion}
use Rattle.std.proofs.lemmas.Bool.{eqb-true}
use Rattle.std.proofs.lemmas.List.{reverse-reverse}
use Rattle.query_values.specs.declared.value.Value.{Value}
use Rattle.query_rows.proofs.ShapeCases.{truth_cases}
use Rattle.query_rows.specs.Shape.{LiesIn}
use Rattle.query_rows.specs.declared.shape.Shape.{Shape}
use Rattle.query_rows.specs.declared.shape.Shape.TheVariants.{Truth}
use Rattle.query_rows.specs.ColumnShape.{column_shape}
use Rattle.query_terms.specs.declared.column.Column.TheVariants.{Balance}
use Rattle.limits.specs.declared.bounds.Bounds.{Bounds}
use Rattle.query_rows.specs.Row.{Row}
use Rattle.query_rows.specs.Shaped.{IsShaped}
use Rattle.query_code.specs.declared.program.Mode.{Mode}
use Rattle.query_code.specs.declared.program.Mode.TheVariants.{Plain, Grouped}
use Rattle.query_code.specs.declared.program.Parts.{Parts}
use Rattle.plain_machine.specs.Depth.{outcome_of, values_in}
use Rattle.plain_machine.specs.Finishing.{are_orderable}
use Rattle.plain_machine.specs.Gathering.{Group, Keeping, all_inputs, aggregates_over, running_with}
use Rattle.plain_machine.specs.PlainMachine.{Kept, Stand, InFilter, InRow, InLast, Done, Fault}
use Rattle.plain_machine.specs.PlainMachine.{balance_in, filter_loads, row_loads, last_loads}
use Rattle.plain_machine.specs.PlainMachine.{with_running}
use Rattle.plain_machine.specs.PlainMachine.{filter_acts, row_acts, last_acts, ended, begin_last}
use Rattle.plain_machine.specs.PlainMachine.{go_on_last, end_last, begin_filter, go_on, kept_with}
use Rattle.plain_machine.specs.PlainMachine.{end_row, begin_row, judged, end_filter, in_filter}
use Rattle.plain_machine.specs.PlainMachine.{in_row, in_last, step, nothing_kept, stand_after}
use Rattle.plain_machine.specs.SectionRun.{State, start, Outcome, Standing, one_step}
use Rattle.well_shaped.proofs.FrameFacts.{as_many}
use Rattle.well_shaped.specs.Places.{Leaves, HasDepth}
use Rattle.well_shaped.specs.Program.{AreGrouped, EndsWell, HasDepthInLast, HasDepthSomewhere}
use Rattle.well_shaped.specs.Program.{IsWellShaped}
use Rattle.well_shaped.specs.Sections as shapes
use Rattle.well_shaped.specs.StateShape.{AreEach, IfSet, StateLiesIn}
use Rattle.well_shaped.proofs.SafeEndFacts.{Inputs, MemberLies, RestLies, KeepsOn, none_kept}
use Rattle.well_shaped.proofs.SafeEndFacts.{rest_later, row_there, keeps_on}
use Rattle.well_shaped.proofs.GatheringFacts.{Gives, one_behind, values_lie}
use Rattle.well_shaped.proofs.LoadFacts.{IsShortText, acts_lie}
use Rattle.well_shaped.proofs.OrderFacts.{AreRows, orderable}
use Rattle.well_shaped.proofs.SafePlaceFacts.{StandsAt, ComesTo, before_end, begins, goes_on}
use Rattle.well_shaped.proofs.SafePlaceFacts.{left_by_none, left_values, not_empty}
use Rattle.well_shaped.proofs.RunningFacts.{RunningLies, none_running, running_later}
use Rattle.well_shaped.proofs.RunningFacts.{running_lies, running_more}

-- ---- what sections load

balance_lies : (m : Mode) (b : Bounds) (running : Value)
    → LiesIn running (column_shape b Balance)
    → IfSet LiesIn (balance_in m running) (shapes.balance_in m b)
balance_lies Plain b running lies = lies
balance_lies Grouped b running lies = tt

-- ---- the last section

-- before an instruction of the last section, at a group
pub record AreLast {p : Parts} {values : List Shape} (ends : AreGrouped p values)
    (g : Group Inputs) (rest : List (Group Inputs)) (rows : List (List Value)) (q : ℕ)
    (s : State Value) : Type 0 where
  pub this : MemberLies ends p.bounds.postings g
  pub others : AllByRecursion (MemberLies ends p.bounds.postings) rest
  pub made : AreRows ends.row rows
  pub stands : StandsAt ends.last q s

abbrev pub LastLies : (mode : Mode) (p : Parts) (values : List Shape) → EndsWell mode p values
    → Group Inputs → List (Group Inputs) → List (List Value) → ℕ → State Value → Type 0
LastLies Plain p values ends g rest rows q s = ⊥
LastLies Grouped p values ends g rest rows q s = AreLast ends g rest rows q s

module _ (p : Parts) (shaped : IsWellShaped p) (short : AllByRecursion IsShortText p.code.pool)
    (targets : 0 < length p.output.targets) where
  abbrev keep : Keeping Inputs
  keep = all_inputs p.code.aggregates

  abbrev Ends : Mode → Type 0
  Ends mode = EndsWell mode p shaped.values

  abbrev AreShaped : List Row → Type 0
  AreShaped = AllByRecursion (IsShaped p.bounds)

  -- before a row of the ledger or in it: k rows were taken, and there is room for those behind it
  pub record Taken (mode : Mode) (ends : Ends mode) (k : ℕ) (r : Row) (rest : List Row)
      (kept : Kept Inputs) : Type 0 where
    pub few : k + suc (length rest) ≤ p.bounds.postings
    pub row : IsShaped p.bounds r
    pub others : AreShaped rest
    pub lies : RestLies mode p shaped.values ends k kept.groups kept.rows

  pub record GoodFilter (mode : Mode) (ends : Ends mode) (r : Row) (rest : List Row)
      (kept : Kept Inputs) (q : ℕ) (s : State Value) : Type 0 where
    pub k : ℕ
    pub taken : Taken mode ends k r rest kept
    pub running : RunningLies p.bounds k kept.running
    pub stands : StandsAt shaped.filter q s

  -- the running inventory has the position of this row
  pub record GoodRow (mode : Mode) (ends : Ends mode) (r : Row) (rest : List Row)
      (kept : Kept Inputs) (q : ℕ) (s : State Value) : Type 0 where
    pub k : ℕ
    pub taken : Taken mode ends k r rest kept
    pub running : RunningLies p.bounds (suc k) kept.running
    pub stands : StandsAt shaped.row q s

  -- the values lie in the shapes of their places, and what is kept in those of the rows taken
  abbrev pub Good : (mode : Mode) → Ends mode → Stand Inputs → Type 0
  Good mode ends (InFilter r rest kept q s) = GoodFilter mode ends r rest kept q s
  Good mode ends (InRow r rest kept q s) = GoodRow mode ends r rest kept q s
  Good mode ends (InLast g rest rows q s) = LastLies mode p shaped.values ends g rest rows q s
  Good mode ends (Done rows) = Unit {0}
  Good mode ends Fault = ⊥

  -- ---- the next instruction

  filter_comes : (r : Row) (q : ℕ) (s : State Value) → IsShaped p.bounds r
      → StandsAt shaped.filter q s
      → ComesTo shaped.filter (one_step p.code.filter (filter_acts p r) (Standing q s))
  filter_comes r q s row stands =
      goes_on shaped.filter (filter_acts p r)
      (acts_lie p.code.pool short (filter_loads p.bounds.schema r) (shapes.filter_loads p.bounds)
      (record { posting = (row, refl); balance = tt; keys = tt; aggregates = tt })) q s stands

  row_comes : (r : Row) (running : Value) (q : ℕ) (s : State Value) → IsShaped p.bounds r
      → RunningLies p.bounds p.bounds.postings running → StandsAt shaped.row q s
      → ComesTo shaped.row (one_step p.code.row (row_acts p running r) (Standing q s))
  row_comes r running q s row lies stands =
      goes_on shaped.row (row_acts p running r)
      (acts_lie p.code.pool short (row_loads p.bounds.schema p.mode running r)
      (shapes.row_loads p.mode p.bounds)
      (record {
        posting = (row, refl);
        balance =
            balance_lies p.mode p.bounds running
            (running_lies p.bounds shaped.bounds running lies);
        keys = tt;
        aggregates = tt;
      })) q s stands

  last_comes : (ends : AreGrouped p shaped.values) (g : Group Inputs) (q : ℕ) (s : State Value)
      → MemberLies ends p.bounds.postings g → StandsAt ends.last q s
      → ComesTo ends.last (one_step p.code.last (last_acts keep p g) (Standing q s))
  last_comes ends g q s this stands =
      goes_on ends.last (last_acts keep p g)
      (acts_lie p.code.pool short
      (last_loads p.bounds.schema g.0 (aggregates_over p.code.aggregates g.1))
      (shapes.last_loads ends.keys ends.totals)
      (record {
        posting = tt;
        balance = tt;
        keys = this.named;
        aggregates =
            values_lie p.bounds.postings p.code.aggregates ends.handed.inputs ends.totals g.1
            ends.handed.gather this.lists;
      })) q s stands

  -- ---- the groups

  done : (mode : Mode) (ends : Ends mode) (rows : List (List Value))
      → are_orderable p.output.order rows ≡ true → Good mode ends (ended p rows)
  done mode ends rows e =
      subst (λ t. Good mode ends (cond t (Done rows) Fault)) (sym e) tt

  groups_begin : (ends : AreGrouped p shaped.values) (groups : List (Group Inputs))
      (rows : List (List Value)) → AllByRecursion (MemberLies ends p.bounds.postings) groups
      → AreRows ends.row rows → Good Grouped ends (begin_last p groups rows)
  groups_begin ends [] rows all these =
      done Grouped ends rows (orderable ends.row p.output.order ends.is_row.ordered rows these)
  groups_begin ends (g ∷ rest) rows all these = by (nat_eq (length p.code.last) 0) refl
    where
      some : length p.code.last ≡ 0 → ⊥
      some e =
          let none : 0 ≡ length ends.row = as_many LiesIn [] ends.row (left_by_none ends.last e) in
          let width = ends.is_row.as_many in
          omega (arith, none, width, targets)

      by : (t : Bool) → nat_eq (length p.code.last) 0 ≡ t
          → Good Grouped ends (cond t Fault (InLast g rest rows 0 start))
      by true e = absurd (some (eqb-true (length p.code.last) 0 e))
      by false e = record {
        this = all.0;
        others = all.1;
        made = these;
        stands = begins ends.last (not_empty (length p.code.last) e);
      }

  rest_begins : (mode : Mode) (ends : Ends mode) (groups : List (Group Inputs))
      (rows : List (List Value))
      → RestLies mode p shaped.values ends p.bounds.postings groups rows
      → Good mode ends (begin_last p groups rows)
  rest_begins Plain ends groups rows lies =
      subst (λ gs. Good Plain ends (begin_last p gs rows)) (sym lies.0)
      (done Plain ends rows (orderable shaped.values p.output.order ends.ordered rows lies.1))
  rest_begins Grouped ends groups rows lies =
      subst (λ rs. Good Grouped ends (begin_last p groups rs)) (sym lies.1)
      (groups_begin ends groups [] lies.0 tt)

  -- ---- the rows

  module _ (mode : Mode) (same : p.mode ≡ mode) (ends : Ends mode) where
    filter_begins : (k : ℕ) (rows : List Row) (kept : Kept Inputs)
        → k + length rows ≤ p.bounds.postings → AreShaped rows
        → RunningLies p.bounds k kept.running
        → RestLies mode p shaped.values ends k kept.groups kept.rows
        → Good mode ends (begin_filter p rows kept)
    filter_begins k [] kept few rows running lies =
        rest_begins mode ends kept.groups kept.rows
        (rest_later mode p shaped.values ends k p.bounds.postings (omega (arith, few)) kept.groups
        kept.rows lies)
    filter_begins k (r ∷ rest) kept few rows running lies =
        by (nat_eq (length p.code.filter) 0) refl
      where
        some : length p.code.filter ≡ 0 → ⊥
        some e = absurd (left_by_none shaped.filter e)

        by : (t : Bool) → nat_eq (length p.code.filter) 0 ≡ t
            → Good mode ends (cond t Fault (InFilter r rest kept 0 start))
        by true e = absurd (some (eqb-true (length p.code.filter) 0 e))
        by false e = record {
          k = k;
          taken = record { few = few; row = rows.0; others = rows.1; lies = lies };
          running = running;
          stands = begins shaped.filter (not_empty (length p.code.filter) e);
        }

    row_ends : (k : ℕ) (r : Row) (rest : List Row) (kept : Kept Inputs) (stack : List Value)
        → Taken mode ends k r rest kept → RunningLies p.bounds (suc k) kept.running
        → AreEach LiesIn (reverse stack) shaped.values
        → Good mode ends (end_row keep p rest kept stack)
    row_ends k r rest kept stack taken running lie =
        by (kept_with keep p kept stack)
        (keeps_on p shaped.values k room kept stack lie mode same ends taken.lies)
      where
        room : suc k ≤ p.bounds.postings
        room = let few = taken.few in omega (arith, few)

        by : (o : Option (Kept Inputs))
            → Gives (KeepsOn mode p shaped.values ends (suc k) kept) o
            → Good mode ends (go_on p rest o)
        by None keeps = absurd keeps
        by (Some more) keeps =
            filter_begins (suc k) rest more (let few = taken.few in omega (arith, few)) taken.others
            (subst (λ v. RunningLies p.bounds (suc k) v) (sym keeps.running) running) keeps.rest

    row_begins : (k : ℕ) (r : Row) (rest : List Row) (kept : Kept Inputs)
        → Taken mode ends k r rest kept → RunningLies p.bounds (suc k) kept.running
        → Good mode ends (begin_row keep p r rest (Some kept))
    row_begins k r rest kept taken running = by (nat_eq (length p.code.row) 0) refl
      where
        by : (t : Bool) → nat_eq (length p.code.row) 0 ≡ t
            → Good mode ends (cond t (end_row keep p rest kept []) (InRow r rest kept 0 start))
        by true e =
            row_ends k r rest kept [] taken running
            (left_by_none shaped.row (eqb-true (length p.code.row) 0 e))
        by false e = record {
          k = k;
          taken = taken;
          running = running;
          stands = begins shaped.row (not_empty (length p.code.row) e);
        }

    row_passes : (k : ℕ) (r : Row) (rest : List Row) (kept : Kept Inputs)
        → Taken mode ends k r rest kept → RunningLies p.bounds k kept.running
        → Good mode ends
        (begin_row keep p r rest (option_map (with_running kept) (running_with kept.running r)))
    row_passes k r rest kept taken running =
        by (running_with kept.running r)
        (running_more p.bounds shaped.bounds k kept.running r
        (let few = taken.few in omega (arith, few)) running taken.row)
      where
        by : (o : Option Value) → Gives (RunningLies p.bounds (suc k)) o
            → Good mode ends (begin_row keep p r rest (option_map (with_running kept) o))
        by None more = absurd more
        by (Some v) more = row_begins k r rest (with_running kept v) (record {
          few = taken.few;
          row = taken.row;
          others = taken.others;
          lies = taken.lies;
        }) more

    row_is_left_out : (k : ℕ) (r : Row) (rest : List Row) (kept : Kept Inputs)
        → Taken mode ends k r rest kept → RunningLies p.bounds k kept.running
        → Good mode ends (begin_filter p rest kept)
    row_is_left_out k r rest kept taken running =
        filter_begins (suc k) rest kept (let few = taken.few in omega (arith, few)) taken.others
        (running_later p.bounds k (suc k) kept.running (omega arith) running)
        (rest_later mode p shaped.values ends k (suc k) (omega arith) kept.groups kept.rows
        taken.lies)

    filter_ends : (k : ℕ) (r : Row) (rest : List Row) (kept : Kept Inputs) (stack : List Value)
        → Taken mode ends k r rest kept → RunningLies p.bounds k kept.running
        → AreEach LiesIn (reverse stack) (Truth ∷ [])
        → Good mode ends (end_filter keep p r rest kept stack)
    filter_ends k r rest kept stack taken running lie =
        subst (λ vs. Good mode ends (end_filter keep p r rest kept vs)) (reverse-reverse stack)
        (by (reverse stack) lie)
      where
        judges : (x : Value) → LiesIn x Truth
            → Good mode ends (end_filter keep p r rest kept (x ∷ []))
        judges =
            truth_cases (λ x. Good mode ends (end_filter keep p r rest kept (x ∷ []))) out decided
          where
            out : Good mode ends (begin_filter p rest kept)
            out = row_is_left_out k r rest kept taken running

            decided : (b : Bool)
                → Good mode ends (judged keep p r rest kept (Some b))
            decided true = row_passes k r rest kept taken running
            decided false = out

        by : (vs : List Value) → AreEach LiesIn vs (Truth ∷ [])
            → Good mode ends (end_filter keep p r rest kept (reverse vs))
        by [] each = absurd each
        by (x ∷ []) each = judges x each.0
        by (x ∷ y ∷ vs) each = absurd each.1

    -- ---- one step

    filter_steps : (r : Row) (rest : List Row) (kept : Kept Inputs) (q : ℕ) (s : State Value)
        → GoodFilter mode ends r rest kept q s
        → Good mode ends (step keep p (InFilter r rest kept q s))
    filter_steps r rest kept q s good =
        subst (λ o. Good mode ends (in_filter keep p r rest kept o)) (sym c.is)
        (by (nat_eq c.place (length p.code.filter)) refl)
      where
        c : ComesTo shaped.filter (one_step p.code.filter (filter_acts p r) (Standing q s))
        c = filter_comes r q s good.taken.row good.stands

        by : (t : Bool) → nat_eq c.place (length p.code.filter) ≡ t
            → Good mode ends
            (cond t (end_filter keep p r rest kept c.state.stack)
            (InFilter r rest kept c.place c.state))
        by true e =
            filter_ends good.k r rest kept c.state.stack good.taken good.running
            (left_values shaped.filter c.state
            (subst (λ n. StateLiesIn c.state (shaped.filter.at n))
            (eqb-true c.place (length p.code.filter) e) c.lies))
        by false e = record {
          k = good.k;
          taken = good.taken;
          running = good.running;
          stands = record {
            before = before_end c.place (length p.code.filter) c.within e;
            lies = c.lies;
          };
        }

    all_running : (k : ℕ) (r : Row) (rest : List Row) (kept : Kept Inputs)
        → Taken mode ends k r rest kept → RunningLies p.bounds (suc k) kept.running
        → RunningLies p.bounds p.bounds.postings kept.running
    all_running k r rest kept taken running =
        running_later p.bounds (suc k) p.bounds.postings kept.running
        (let few = taken.few in omega (arith, few)) running

    row_steps : (r : Row) (rest : List Row) (kept : Kept Inputs) (q : ℕ) (s : State Value)
        → GoodRow mode ends r rest kept q s
        → Good mode ends (step keep p (InRow r rest kept q s))
    row_steps r rest kept q s good =
        subst (λ o. Good mode ends (in_row keep p r rest kept o)) (sym c.is)
        (by (nat_eq c.place (length p.code.row)) refl)
      where
        c : ComesTo shaped.row (one_step p.code.row (row_acts p kept.running r) (Standing q s))
        c =
            row_comes r kept.running q s good.taken.row
            (all_running good.k r rest kept good.taken good.running) good.stands

        by : (t : Bool) → nat_eq c.place (length p.code.row) ≡ t
            → Good mode ends
            (cond t (end_row keep p rest kept c.state.stack) (InRow r rest kept c.place c.state))
        by true e =
            row_ends good.k r rest kept c.state.stack good.taken good.running
            (left_values shaped.row c.state
            (subst (λ n. StateLiesIn c.state (shaped.row.at n))
            (eqb-true c.place (length p.code.row) e) c.lies))
        by false e = record {
          k = good.k;
          taken = good.taken;
          running = good.running;
          stands = record {
            before = before_end c.place (length p.code.row) c.within e;
            lies = c.lies;
          };
        }

  last_steps : (ends : AreGrouped p shaped.values) (g : Group Inputs) (rest : List (Group Inputs))
      (rows : List (List Value)) (q : ℕ) (s : State Value) → AreLast ends g rest rows q s
      → Good Grouped ends (step keep p (InLast g rest rows q s))
  last_steps ends g rest rows q s good =
      subst (λ o. Good Grouped ends (in_last keep p g rest rows o)) (sym c.is)
      (by (nat_eq c.place (length p.code.last)) refl)
    where
      c : ComesTo ends.last (one_step p.code.last (last_acts keep p g) (Standing q s))
      c = last_comes ends g q s good.this good.stands

      stack : List Value
      stack = c.state.stack

      gives : AreEach LiesIn (reverse stack) ends.row
          → Good Grouped ends (end_last p rest rows stack)
      gives lie =
          subst (λ o. Good Grouped ends (go_on_last p rest rows o))
          (sym (row_there p.output ends.row ends.is_row stack lie))
          (groups_begin ends rest (rows ++ reverse stack ∷ []) good.others
          (one_behind (λ row. AreEach LiesIn row ends.row) rows (reverse stack) good.made lie))

      by : (t : Bool) → nat_eq c.place (length p.code.last) ≡ t
          → Good Grouped ends
          (cond t (end_last p rest rows stack) (InLast g rest rows c.place c.state))
      by true e =
          gives (left_values ends.last c.state
          (subst (λ n. StateLiesIn c.state (ends.last.at n)) (eqb-true c.place (length p.code.last) e)
          c.lies))
      by false e = record {
        this = good.this;
        others = good.others;
        made = good.made;
        stands = record {
          before = before_end c.place (length p.code.last) c.within e;
          lies = c.lies;
        };
      }

  at_group : (mode : Mode) (ends : Ends mode) (g : Group Inputs) (rest : List (Group Inputs))
      (rows : List (List Value)) (q : ℕ) (s : State Value)
      → LastLies mode p shaped.values ends g rest rows q s
      → Good mode ends (step keep p (InLast g rest rows q s))
  at_group Plain ends g rest rows q s good = absurd good
  at_group Grouped ends g rest rows q s good = last_steps ends g rest rows q s good

  module _ (mode : Mode) (same : p.mode ≡ mode) (ends : Ends mode) where
    steps_well : (s : Stand Inputs) → Good mode ends s → Good mode ends (step keep p s)
    steps_well (InFilter r rest kept q s) good =
        filter_steps mode same ends r rest kept q s good
    steps_well (InRow r rest kept q s) good = row_steps mode same ends r rest kept q s good
    steps_well (InLast g rest rows q s) good = at_group mode ends g rest rows q s good
    steps_well (Done rows) good = tt
    steps_well Fault good = good

    pub stays_good : (rows : List Row) → length rows ≤ p.bounds.postings → AreShaped rows → (n : ℕ)
        → Good mode ends (stand_after p rows n)
    stays_good rows few are zero =
        filter_begins mode same ends 0 rows nothing_kept (omega (arith, few)) are (none_running p.bounds)
        (none_kept mode p shaped.values ends)
    stays_good rows few are (suc n) =
        steps_well (stand_after p rows n) (stays_good rows few are n)

    pub no_fault : (s : Stand Inputs) → Good mode ends s → s ≡ Fault → ⊥
    no_fault s good e = subst (λ t. Good mode ends t) e good

  -- ---- the stack

  comes_shallow : {n : _} {code : _} {values : List Shape} (w : Leaves n code values) (o : Outcome)
      → ComesTo w o → (depth : ℕ) → ((d : ℕ) → HasDepth w d → d ≤ depth)
      → length (values_in o) ≤ depth
  comes_shallow {n} {code} w o c depth deep =
      let long : length c.state.stack ≡ length (w.at c.place).stack =
      as_many LiesIn c.state.stack (w.at c.place).stack c.lies.stacks in
      let most : length (w.at c.place).stack ≤ depth =
      deep (length (w.at c.place).stack)
      (record { place = c.place; within = c.within; deep = refl }) in
      subst (λ x. length (values_in x) ≤ depth) (sym c.is)
      (subst (λ m. m ≤ depth) (sym long) most)

  last_shallow : (mode : Mode) (ends : Ends mode) (depth : ℕ)
      → ((d : ℕ) → HasDepthInLast mode p shaped.values ends d → d ≤ depth) → (g : Group Inputs)
      (rest : List (Group Inputs)) (rows : List (List Value)) (q : ℕ) (s : State Value)
      → LastLies mode p shaped.values ends g rest rows q s
      → length (values_in (outcome_of keep p (InLast g rest rows q s))) ≤ depth
  last_shallow Plain ends depth deep g rest rows q s good = absurd good
  last_shallow Grouped ends depth deep g rest rows q s good =
      comes_shallow ends.last (one_step p.code.last (last_acts keep p g) (Standing q s))
      (last_comes ends g q s good.this good.stands) depth deep

  pub stays_shallow : (depth : ℕ) → ((d : ℕ) → HasDepthSomewhere shaped d → d ≤ depth)
      → (s : Stand Inputs) → Good p.mode shaped.ends s
      → length (values_in (outcome_of keep p s)) ≤ depth
  stays_shallow depth deep (InFilter r rest kept q s) good =
      comes_shallow shaped.filter (one_step p.code.filter (filter_acts p r) (Standing q s))
      (filter_comes r q s good.taken.row good.stands) depth (λ d h. deep d (inl h))
  stays_shallow depth deep (InRow r rest kept q s) good =
      comes_shallow shaped.row (one_step p.code.row (row_acts p kept.running r) (Standing q s))
      (row_comes r kept.running q s good.taken.row
      (all_running p.mode refl shaped.ends good.k r rest kept good.taken good.running) good.stands)
      depth (λ d h. deep d (inr (inl h)))
  stays_shallow depth deep (InLast g rest rows q s) good =
      last_shallow p.mode shaped.ends depth (λ d h. deep d (inr (inr h))) g rest rows q s good
  stays_shallow depth deep (Done rows) good = omega arith
  stays_shallow depth deep Fault good = absurd good
