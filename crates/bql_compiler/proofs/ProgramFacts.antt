-- What the sections of a compiled program compute has shapes, so that it is well shaped.
use Rattle.std.proofs.Common.{◌≡◌, ℕ, zero, suc, Bool, true, false, not, cond, ◌||◌, List, [], ◌∷◌}
use Rattle.std.proofs.Common.{◌++◌, map, length}
use Rattle.std.proofs.Common.{Option, Some, None, refl, sym, ap, ◌∙◌, ◌⊎◌, inl, inr, ⊎_elim}
use Rattle.std.proofs.Common.{arith, ◌≤◌, ◌<◌}
use Rattle.std.proofs.lemmas.Bool.{cases_lt}
use Rattle.std.specs.Prelude.{IfSome, slice_get}
use Rattle.std.specs.List.{AllByRecursion, IsAmong}
use Rattle.limits.specs.declared.bounds.Bounds.{Bounds}
use Rattle.limits.specs.declared.counts.TheConstants.{MOST_VALUES}
use Rattle.bql_code.proofs.PoolFacts.{have_what_is_used}
use Rattle.bql_code.specs.Core.{Core}
use Rattle.bql_code.specs.Laws.{StandsIn}
use Rattle.bql_code.specs.Pool.{all_used, used}
use Rattle.bql_lowering.specs.Lowered.{Gathered, all_lowered, has, lowered, of_a_row}
use Rattle.bql_parser.specs.Asked.{Asked}
use Rattle.bql_plan.proofs.LawFacts.{aggregates_are_counted}
use Rattle.bql_plan.specs.Plan.{aggregates_in, aggregates_of, plan, shown}
use Rattle.bql_compiler.specs.Program.{depth_of, filter_of, filtering, gathered_of}
use Rattle.bql_compiler.specs.Program.{inputs_in, mode_of, parts_of, sections_of}
use Rattle.bql_tree.specs.Tree.{Tree}
use Rattle.bql_types.proofs.TypedFacts.{typed_have_shapes}
use Rattle.bql_types.specs.Gathered.{aggregate_in}
use Rattle.bql_types.specs.Laws.{IsFilter}
use Rattle.bql_types.specs.Same.{same}
use Rattle.bql_types.specs.Shaped.{shape_of}
use Rattle.bql_types.specs.Sought.{balances, is_key, misplaced}
use Rattle.bql_types.specs.Typing.{Grouping, IsTyped, grouping_of}
use Rattle.bql_compiler.proofs.CodeProgramFacts.{is_depth}
use Rattle.bql_compiler.specs.CoreShape.{HasShape, HaveShapes}
use Rattle.bql_compiler.specs.Shaped.{EndsIn, HasShapes}
use Rattle.bql_compiler.proofs.ConstantFacts.{all_first, all_second}
use Rattle.bql_compiler.proofs.LoweredReadFacts.{last_loaded, row_loaded}
use Rattle.bql_compiler.proofs.TypedFacts.{lowered_shape}
use Rattle.bql_compiler.specs.Loaded.{AreGathered}
use Rattle.query_code.specs.declared.program.Constant.{Constant}
use Rattle.query_code.specs.declared.program.Mode.TheVariants.{Plain, Grouped}
use Rattle.query_code.specs.declared.program.Parts.{Parts}
use Rattle.query_rows.specs.ColumnShape.{AreBounds, column_shape}
use Rattle.query_terms.specs.declared.column.Column.TheVariants.{Balance}
use Rattle.query_rows.specs.declared.shape.Shape.{Shape}
use Rattle.query_rows.specs.declared.shape.Shape.TheVariants.{Truth}
use Rattle.well_shaped.specs.Ends.{gathered}
use Rattle.well_shaped.specs.Laws.{IsHeld}
use Rattle.well_shaped.specs.Sections.{Loads, filter_loads, last_loads, row_loads}
use Rattle.bql_compiler.specs.CompiledShapes.{CompiledAreWellShaped}
use Rattle.bql_compiler.proofs.GatherFacts.{AreShapes, Gathers, HaveAll, all_held, as_many}
use Rattle.bql_compiler.proofs.GatherFacts.{both_have, gathers, have_all, loaded_by}
use Rattle.bql_compiler.proofs.SchemeListFacts.{both_are, each_is}
use Rattle.bql_compiler.proofs.QueryFacts.{IsOfRows, IsPlanned, IsShown}
use Rattle.bql_compiler.proofs.QueryFacts.{IsTypedTree, in_groups, inputs_of_rows, is_planned}
use Rattle.bql_compiler.proofs.RowFacts.{are_row}

-- ---- what is computed of each row

module _ (b : Bounds) (bounds : AreBounds b) (pool : List Constant) where
  abbrev Stand : List Constant → Type 0
  Stand cs = AllByRecursion (StandsIn pool) cs

  nothing_gathered : (l : Loads) → AreGathered b l of_a_row pool
  nothing_gathered l = record { keys = λ t s is e. absurd cc; aggregates = λ t s is e. absurd cc }

  -- the running inventory is there, or it isn't read
  abbrev HasBalance : Loads → Tree ℕ → Type 0
  HasBalance l t = (l.balance ≡ Some (column_shape b Balance)) ⊎ (balances t ≡ [])

  -- what may be computed of each row where so much is loaded
  record ReadsRow (l : Loads) (t : Tree ℕ) : Type 0 where
    typed : IsTypedTree b t
    plain : misplaced b true t ≡ []
    balance : HasBalance l t

  row_shape : (l : Loads) → l.posting ≡ Some b → (t : Tree ℕ) (s : Shape) → ReadsRow l t
      → shape_of b t ≡ Some s → Stand (used (lowered b of_a_row t))
      → HasShape pool l (lowered b of_a_row t) s
  row_shape l posting t s h e stand =
      lowered_shape b bounds pool l of_a_row (nothing_gathered l) t s e h.typed.small
      (row_loaded b l posting of_a_row t h.typed.whole h.plain h.balance) stand

  row_shapes : (l : Loads) → l.posting ≡ Some b → (ts : List (Tree ℕ)) (ss : List Shape)
      → AllByRecursion (ReadsRow l) ts → AreShapes b ts ss
      → Stand (all_used (all_lowered b of_a_row ts))
      → HaveShapes pool l (all_lowered b of_a_row ts) ss
  row_shapes l posting [] [] h are stand = tt
  row_shapes l posting [] (s ∷ ss) h are stand = absurd are
  row_shapes l posting (t ∷ ts) [] h are stand = absurd are
  row_shapes l posting (t ∷ ts) (s ∷ ss) h are stand =
      let first = used (lowered b of_a_row t) in
      let others = all_used (all_lowered b of_a_row ts) in (
        row_shape l posting t s h.0 are.0 (all_first (StandsIn pool) first others stand),
        row_shapes l posting ts ss h.1 are.1 (all_second (StandsIn pool) first others stand),
      )

  rows_read : (l : Loads) (t : Tree ℕ) → IsOfRows b t → ReadsRow l t
  rows_read l t h =
      record { typed = h.typed; plain = h.plain; balance = inr h.balanceless }

  -- ---- filters

  filter_shape : (t : Tree ℕ) → IsOfRows b t → shape_of b t ≡ Some Truth
      → Stand (used (lowered b of_a_row t))
      → HasShape pool (filter_loads b) (lowered b of_a_row t) Truth
  filter_shape t h e stand =
      row_shape (filter_loads b) refl t Truth (rows_read (filter_loads b) t h) e stand

  filters_shape : (from filter : Option (Tree ℕ)) → IfSome from (IsOfRows b)
      → IfSome filter (IsOfRows b) → IsFilter b from → IsFilter b filter
      → Stand (used (filtering (filter_of b from) (filter_of b filter)))
      → HasShape pool (filter_loads b) (filtering (filter_of b from) (filter_of b filter)) Truth
  filters_shape (Some t) (Some u) h k e d stand =
      let first = used (lowered b of_a_row t) in
      let other = used (lowered b of_a_row u) in (
        filter_shape t h e (all_first (StandsIn pool) first other stand),
        filter_shape u k d (all_second (StandsIn pool) first other stand),
        refl,
      )
  filters_shape (Some t) None h k e d stand = filter_shape t h e stand
  filters_shape None (Some u) h k e d stand = filter_shape u k d stand
  filters_shape None None h k e d stand = refl

  -- ---- what is computed of each group

  module _ (g : Grouping) (keys totals : List Shape) (of_keys : AreShapes b g.keys keys)
      (aggregates : List (Tree ℕ)) (of_totals : AreShapes b aggregates totals)
      (held_keys : AllByRecursion IsHeld keys) (held_totals : AllByRecursion IsHeld totals) where
    abbrev group : Gathered
    group = record { keys = g.keys; aggregates = aggregates }

    abbrev loads : Loads
    loads = last_loads keys totals

    all_gathered : AreGathered b loads group pool
    all_gathered = record {
      keys = loaded_by b g.keys keys of_keys held_keys;
      aggregates = loaded_by b aggregates totals of_totals held_totals;
    }

    abbrev IsCounted : Tree ℕ → Type 0
    IsCounted t = has aggregates t ≡ true

    last_shape : (t : Tree ℕ) (s : Shape) → IsShown b g t → g.is_aggregating ≡ true
        → AllByRecursion IsCounted (aggregates_in t) → shape_of b t ≡ Some s
        → Stand (used (lowered b group t)) → HasShape pool loads (lowered b group t) s
    last_shape t s h is counted e stand =
        lowered_shape b bounds pool loads group all_gathered t s e h.typed.small
        (last_loaded b loads group t (in_groups b g t h is).0 counted) stand

    pub last_shapes : (ts : List (Tree ℕ)) (ss : List Shape) → AllByRecursion (IsShown b g) ts
        → g.is_aggregating ≡ true → AllByRecursion IsCounted (aggregates_of ts)
        → AreShapes b ts ss → Stand (all_used (all_lowered b group ts))
        → HaveShapes pool loads (all_lowered b group ts) ss
    last_shapes [] [] h is counted are stand = tt
    last_shapes [] (s ∷ ss) h is counted are stand = absurd are
    last_shapes (t ∷ ts) [] h is counted are stand = absurd are
    last_shapes (t ∷ ts) (s ∷ ss) h is counted are stand =
        let first = used (lowered b group t) in
        let others = all_used (all_lowered b group ts) in (
          last_shape t s h.0 is
              (all_first IsCounted (aggregates_in t) (aggregates_of ts) counted) are.0
              (all_first (StandsIn pool) first others stand),
          last_shapes ts ss h.1 is
              (all_second IsCounted (aggregates_in t) (aggregates_of ts) counted) are.1
              (all_second (StandsIn pool) first others stand),
        )

-- ---- aggregates are counted

is_among : (ts : List (Tree ℕ)) (i : ℕ) (t u : Tree ℕ) → slice_get ts i ≡ Some u
    → same t u ≡ true → is_key ts t ≡ true
is_among [] i t u at is = absurd cc
is_among (v ∷ ts) zero t u at is = ap (λ x. x || is_key ts t) (ap (same t) (it v u at) ∙ is)
  where
    it : (v u : Tree ℕ) → Some v ≡ Some u → v ≡ u
    it v u e = cc
is_among (v ∷ ts) (suc i) t u at is =
    ap (λ x. same t v || x) (is_among ts i t u at is) ∙ or_true (same t v)
  where
    or_true : (x : Bool) → (x || true) ≡ true
    or_true true = refl
    or_true false = refl

all_among : (P : Tree ℕ → Type 0) (ts : List (Tree ℕ)) → ((t : Tree ℕ) → IsAmong ts t → P t)
    → AllByRecursion P ts
all_among P [] h = tt
all_among P (t ∷ ts) h = (
  h t (0, (omega arith, refl)),
  all_among P ts (λ u is. h u (suc is.0, (omega (arith, is.1.0), is.1.1))),
)

are_counted : (q : Asked)
    → AllByRecursion (λ t. has (plan q).aggregates t ≡ true) (aggregates_of (shown q))
are_counted q =
    all_among (λ t. has (plan q).aggregates t ≡ true) (aggregates_of (shown q))
    (λ t is. let at = aggregates_are_counted q t is in
    is_among (plan q).aggregates _ t at.tree at.there at.is)

-- ---- a query

module _ (b : Bounds) (bounds : AreBounds b) (q : Asked) (typed : IsTyped b q)
    (planned : IsPlanned b q) where
  abbrev p : Parts
  p = parts_of b q

  abbrev g : Grouping
  g = grouping_of q

  abbrev counted : List (Tree ℕ)
  counted = (plan q).aggregates

  abbrev AreStanding : List Constant → Type 0
  AreStanding cs = AllByRecursion (StandsIn p.code.pool) cs

  -- what the row section leaves, and what is made of it
  record Ends (is : Bool) (row last : List Core) : Type 0 where
    values : List Shape
    rows : HaveShapes p.code.pool (row_loads (mode_of is) b) row values
    ends : EndsIn (mode_of is) p values last

  shown_typed : AllByRecursion (IsTypedTree b) (shown q)
  shown_typed = each_is (IsShown b g) (IsTypedTree b) (λ t h. h.typed) (shown q) planned.shown

  plain_ends : g.is_aggregating ≡ false → AreStanding (all_used (all_lowered b of_a_row (shown q)))
      → Ends false (all_lowered b of_a_row (shown q)) []
  plain_ends is stand =
      let all = have_all b (shown q) shown_typed in
      record {
        values = all.shapes;
        rows =
            row_shapes b bounds p.code.pool (row_loads Plain b) refl (shown q) all.shapes
            (each_is (IsShown b g) (ReadsRow b bounds p.code.pool (row_loads Plain b))
            (λ t h. record {
              typed = h.typed;
              plain = ap (λ inside. misplaced b inside t) (sym (ap not is)) ∙ h.placed;
              balance = inl refl;
            }) (shown q) planned.shown) all.are stand;
        ends = (are_row b q all.shapes all.are typed, refl);
      }

  grouped_ends : g.is_aggregating ≡ true
      → AreStanding (all_used (all_lowered b of_a_row (g.keys ++ inputs_in counted)))
      → AreStanding (all_used (all_lowered b (gathered_of (plan q)) (shown q)))
      → Ends true (all_lowered b of_a_row (g.keys ++ inputs_in counted))
      (all_lowered b (gathered_of (plan q)) (shown q))
  grouped_ends is stand last_stand = record {
    values = keys.shapes ++ totals.inputs;
    rows = rows;
    ends = record {
      keys = keys.shapes;
      totals = totals.totals;
      handed = record {
        inputs = totals.inputs;
        are = refl;
        as_many =
            as_many b g.keys keys.shapes keys.are
            ∙ sym (ap (λ is. length (cond is g.keys [])) is);
        gather =
            ap (λ is. gathered b.postings (cond is (map (aggregate_in b) counted) []) totals.inputs)
            is
            ∙ totals.gather;
      };
      shown = all.shapes;
      shapes = last_shapes b bounds p.code.pool g keys.shapes totals.totals keys.are counted
          totals.of_totals (all_first IsHeld keys.shapes totals.inputs held) totals.held (shown q)
          all.shapes planned.shown is (are_counted q) all.are last_stand;
      is_row = are_row b q all.shapes all.are typed;
    };
  }
    where
      all : HaveAll b (shown q)
      all = have_all b (shown q) shown_typed

      keys : HaveAll b g.keys
      keys = have_all b g.keys
          (each_is (IsOfRows b) (IsTypedTree b) (λ t h. h.typed) g.keys planned.keys)

      totals : Gathers b counted
      totals = gathers b bounds g counted planned.aggregates

      rows : HaveShapes p.code.pool (row_loads Grouped b)
          (all_lowered b of_a_row (g.keys ++ inputs_in counted)) (keys.shapes ++ totals.inputs)
      rows =
          row_shapes b bounds p.code.pool (row_loads Grouped b) refl (g.keys ++ inputs_in counted)
          (keys.shapes ++ totals.inputs)
          (each_is (IsOfRows b) (ReadsRow b bounds p.code.pool (row_loads Grouped b))
          (rows_read b bounds p.code.pool (row_loads Grouped b)) (g.keys ++ inputs_in counted)
          (both_are (IsOfRows b) g.keys (inputs_in counted) planned.keys
          (inputs_of_rows b g counted planned.aggregates is)))
          (both_have b g.keys (inputs_in counted) keys.shapes totals.inputs keys.are
          totals.of_inputs)
          stand

      held : AllByRecursion IsHeld (keys.shapes ++ totals.inputs)
      held = all_held p.code.pool (row_loads Grouped b)
          (all_lowered b of_a_row (g.keys ++ inputs_in counted)) (keys.shapes ++ totals.inputs) rows

  abbrev row_by : Bool → List Core
  row_by is =
      cond is (all_lowered b of_a_row (g.keys ++ inputs_in counted))
      (all_lowered b of_a_row (shown q))

  abbrev last_by : Bool → List Core
  last_by is = cond is (all_lowered b (gathered_of (plan q)) (shown q)) []

  ends_by : (is : Bool) → g.is_aggregating ≡ is → AreStanding (all_used (row_by is))
      → AreStanding (all_used (last_by is)) → Ends is (row_by is) (last_by is)
  ends_by true is stand last_stand = grouped_ends is stand last_stand
  ends_by false is stand last_stand = plain_ends is stand

  abbrev filter : Core
  filter = (sections_of b q (plan q)).filter

  abbrev row : List Core
  row = (sections_of b q (plan q)).row

  abbrev last : List Core
  last = (sections_of b q (plan q)).last

  stand : AreStanding (used filter ++ (all_used row ++ all_used last))
  stand = have_what_is_used [] (used filter ++ (all_used row ++ all_used last))

  others : AreStanding (all_used row ++ all_used last)
  others = all_second (StandsIn p.code.pool) (used filter) (all_used row ++ all_used last) stand

  ends : Ends g.is_aggregating row last
  ends = ends_by g.is_aggregating refl
      (all_first (StandsIn p.code.pool) (all_used row) (all_used last) others)
      (all_second (StandsIn p.code.pool) (all_used row) (all_used last) others)

  pub have_shapes : HasShapes p filter row last
  have_shapes =
      let h = typed_have_shapes b q typed in
      record {
        bounds = bounds;
        filters = filters_shape b bounds p.code.pool q.filters.from q.filters.filter planned.from
            planned.filter h.from h.filter
            (all_first (StandsIn p.code.pool) (used filter) (all_used row ++ all_used last) stand);
        values = ends.values;
        rows = ends.rows;
        ends = ends.ends;
      }

-- not deeper than the stack
not_above : (n most : ℕ) → ¬ (most < n) → n ≤ most
not_above n most h = ⊎_elim (λ above. absurd (h above)) (λ within. within) (cases_lt most n)

pub compiled_depth : CompiledAreWellShaped
compiled_depth b q bounds typed small shallow =
    let s = sections_of b q (plan q) in
    is_depth (parts_of b q) s.filter s.row s.last
    (record { filters = refl; rows = refl; lasts = refl })
    (not_above (depth_of s) MOST_VALUES shallow)
    (have_shapes b bounds q typed (is_planned b q typed small))
