-- What is compiled is a program: its parts have a file. It is well shaped, and carries its query.
use Rattle.std.proofs.Common.{◌≡◌, ℕ, ◌≤◌, ◌<◌, ◌^◌, Bool, true, false, cond, [], ◌++◌}
use Rattle.std.proofs.Common.{map, length, Option, Some, None, refl, sym, ap, ◌∙◌, subst, arith}
use Rattle.std.proofs.Common.{inl, inr}
use Rattle.std.proofs.Math.Logic.{∥∥₁_elim, ∥∥₁_prop}
use Rattle.std.proofs.lemmas.List.{length-map}
use Rattle.std.specs.Prelude.{IfSome}
use Rattle.std.specs.List.{AllByRecursion}
use Rattle.limits.specs.declared.bounds.Bounds.{Bounds}
use Rattle.limits.specs.declared.counts.TheConstants.{LONGEST_SECTION, MOST_ITEMS}
use Rattle.bql_code.specs.Code.{all_code, code}
use Rattle.bql_lowering.specs.Lowered.{all_lowered, of_a_row}
use Rattle.bql_parser.specs.Asked.{Asked}
use Rattle.bql_parser.specs.Small.{IsSmall, IsSmallTree}
use Rattle.bql_plan.specs.Plan.{Plan, index_for, plan, shown}
use Rattle.bql_compiler.specs.Carried.{Carries}
use Rattle.bql_compiler.specs.Program.{IsTooLong, filter_of, filtering, gathered_of, inputs_in}
use Rattle.bql_compiler.specs.Program.{mode_of, output_of, parts_of, sections_of, target_name}
use Rattle.bql_tree.specs.Tree.{Tree}
use Rattle.bql_types.specs.Gathered.{aggregate_in}
use Rattle.bql_types.specs.Typing.{IsTyped, grouping_of}
use Rattle.well_shaped.proofs.FileProgramFacts.{have_files}
use Rattle.well_shaped.specs.Files.{HasGroupsIf, IsShortCode, IsShortOutput}
use Rattle.query_code.specs.ByteForm.{AllFit}
use Rattle.query_code.specs.QueryFile.{constant, file}
use Rattle.query_code.specs.TextForm.{text}
use Rattle.query_code.specs.declared.program.Code.{Code}
use Rattle.query_code.specs.declared.program.Mode.{Mode}
use Rattle.query_code.specs.declared.program.Output.{Output}
use Rattle.query_code.specs.declared.program.Parts.{Parts}
use Rattle.query_rows.specs.ColumnShape.{AreBounds}
use Rattle.bql_compiler.proofs.SchemeListFacts.{both_are, each_is}
use Rattle.bql_compiler.proofs.ProgramFacts.{compiled_depth}
use Rattle.bql_compiler.proofs.QueryFacts.{IsOfRows, IsPlanned, IsShown, IsTypedTree, inputs_typed}
use Rattle.bql_compiler.proofs.QueryFacts.{is_planned}
use Rattle.well_shaped.specs.Program.{IsWellShaped}
use Rattle.bql_compiler.specs.Limits.{IsCompiled, IsWithin, code_in}
use Rattle.bql_compiler.proofs.PlannedFacts.{not_above}
use Rattle.bql_compiler.proofs.RootFacts.{IsFew, all_code_few, all_lowered_few, code_few, lowered_few}

-- ---- components of accounts

filtering_few : (b : Bounds) (from filter : Option (Tree ℕ)) → IfSome from (IsOfRows b)
    → IfSome filter (IsOfRows b) → IsFew (filtering (filter_of b from) (filter_of b filter))
filtering_few b (Some t) (Some u) h k =
    (lowered_few b of_a_row t h.typed.small, lowered_few b of_a_row u k.typed.small)
filtering_few b (Some t) None h k = lowered_few b of_a_row t h.typed.small
filtering_few b None (Some u) h k = lowered_few b of_a_row u k.typed.small
filtering_few b None None h k = tt

module _ (b : Bounds) (q : Asked) (p : IsPlanned b q) where
  keys_small : AllByRecursion IsSmallTree (grouping_of q).keys
  keys_small =
      each_is (IsOfRows b) IsSmallTree (λ t h. h.typed.small) (grouping_of q).keys p.keys

  inputs_small : AllByRecursion IsSmallTree (inputs_in (plan q).aggregates)
  inputs_small =
      each_is (IsTypedTree b) IsSmallTree (λ t h. h.small) (inputs_in (plan q).aggregates)
      (inputs_typed b (grouping_of q) (plan q).aggregates p.aggregates)

  shown_small : AllByRecursion IsSmallTree (shown q)
  shown_small =
      each_is (IsShown b (grouping_of q)) IsSmallTree (λ t h. h.typed.small) (shown q) p.shown

  row_few : (is : Bool)
      → AllByRecursion IsFew (cond is
      (all_lowered b of_a_row ((grouping_of q).keys ++ inputs_in (plan q).aggregates))
      (all_lowered b of_a_row (shown q)))
  row_few true =
      all_lowered_few b of_a_row ((grouping_of q).keys ++ inputs_in (plan q).aggregates)
      (both_are IsSmallTree (grouping_of q).keys (inputs_in (plan q).aggregates) keys_small
      inputs_small)
  row_few false = all_lowered_few b of_a_row (shown q) shown_small

  last_few : (is : Bool)
      → AllByRecursion IsFew (cond is (all_lowered b (gathered_of (plan q)) (shown q)) [])
  last_few true = all_lowered_few b (gathered_of (plan q)) (shown q) shown_small
  last_few false = tt

  -- ---- sections

  module _ (long : ¬ IsTooLong (parts_of b q)) where
    abbrev whole : Parts
    whole = parts_of b q

    short_code : AllFit constant whole.code.pool → IsShortCode whole.code
    short_code fit = record {
      keys = few_keys (grouping_of q).is_aggregating;
      aggregates =
          not_above MOST_ITEMS (length whole.code.aggregates) (λ h. long (inr (inr (inr (inr h)))));
      entries =
          not_above LONGEST_SECTION (length whole.code.pool) (λ h. long (inr (inr (inr (inl h)))));
      pool = fit;
      filter = record {
        short = not_above LONGEST_SECTION (length whole.code.filter) (λ h. long (inl h));
        roots = code_few whole.code.pool 0 (sections_of b q (plan q)).filter
            (filtering_few b q.filters.from q.filters.filter p.from p.filter);
      };
      row = record {
        short = not_above LONGEST_SECTION (length whole.code.row) (λ h. long (inr (inl h)));
        roots = all_code_few whole.code.pool 0 (sections_of b q (plan q)).row
            (row_few (grouping_of q).is_aggregating);
      };
      last = record {
        short = not_above LONGEST_SECTION (length whole.code.last) (λ h. long (inr (inr (inl h))));
        roots = all_code_few whole.code.pool 0 (sections_of b q (plan q)).last
            (last_few (grouping_of q).is_aggregating);
      };
    }
      where
        few_keys : (is : Bool) → length (cond is (grouping_of q).keys []) ≤ MOST_ITEMS
        few_keys true = p.few
        few_keys false = omega arith

    groups : (is : Bool) → (grouping_of q).is_aggregating ≡ is → HasGroupsIf (mode_of is) whole.code
    groups true e = tt
    groups false e = record {
      keys = ap (λ is. length (cond is (grouping_of q).keys [])) e;
      aggregates = ap (λ is. cond is (map (aggregate_in b) (plan q).aggregates) []) e;
      last = ap (λ is. all_code whole.code.pool 0
          (cond is (all_lowered b (gathered_of (plan q)) (shown q)) [])) e;
    }

    short_output : IsSmall q → AllFit text whole.output.targets
        → IfSome whole.output.limit (λ n. n < 2 ^ 32) → IsShortOutput whole.output
    short_output small names limit =
        let n = length-map q.targets target_name in
        let m = length-map q.order.items (index_for (shown q)) in
        record {
          some = omega (arith, n, small.some);
          few = omega (arith, n, small.few);
          names = names;
          order = omega (arith, m, small.order.few);
          limit = limit;
        }

-- ---- programs

-- the parts of a program, each found by itself
pub parts_are : (b : Bounds) (q : Asked) (n : Plan) → n ≡ plan q → (m : Mode)
    → m ≡ mode_of n.grouping.is_aggregating → (o : Output) → o ≡ output_of q n → (c : Code)
    → c ≡ code_in b q → IsWithin b q
    → IsCompiled b q (record { bounds = b; mode = m; output = o; code = c })
parts_are b q n is m mode o output c code within = record {
  parts = λ i. record {
    bounds = b;
    mode = (mode ∙ ap (λ p. mode_of p.grouping.is_aggregating) is) i;
    output = (output ∙ ap (output_of q) is) i;
    code = code i;
  };
  within = within;
}

module _ (b : Bounds) (q : Asked) (bounds : AreBounds b) (typed : IsTyped b q) (small : IsSmall q) where
  scheme_shaped : IsWithin b q → IsWellShaped (parts_of b q)
  scheme_shaped within = (compiled_depth b q bounds typed small within.1).shaped

  pub compiled_shaped : (p : Parts) → IsCompiled b q p → ∥ IsWellShaped p ∥₁
  compiled_shaped p is =
      subst (λ p. ∥ IsWellShaped p ∥₁) (sym is.parts) ∣ scheme_shaped is.within ∣₁

  fits : IsWithin b q → AllFit text (parts_of b q).output.targets
      → IfSome (parts_of b q).output.limit (λ n. n < 2 ^ 32)
      → AllFit constant (parts_of b q).code.pool → file.fits (parts_of b q)
  fits within names limit pool =
      let p = is_planned b q typed small in
      have_files (parts_of b q) (scheme_shaped within) (record {
        output = short_output b q p within.0 small names limit;
        code = short_code b q p within.0 pool;
        groups = groups b q p within.0 (grouping_of q).is_aggregating refl;
      })

  pub compiled_fits : (p : Parts) → IsCompiled b q p → ∥ AllFit text p.output.targets ∥₁
      → IfSome p.output.limit (λ n. n < 2 ^ 32) → ∥ AllFit constant p.code.pool ∥₁
      → ∥ file.fits p ∥₁
  compiled_fits p is names limit pool =
      ∥∥₁_elim names ∥∥₁_prop
      (λ names. ∥∥₁_elim pool ∥∥₁_prop
      (λ pool. subst (λ p. AllFit text p.output.targets
      → IfSome p.output.limit (λ n. n < 2 ^ 32) → AllFit constant p.code.pool → ∥ file.fits p ∥₁)
      (sym is.parts) (λ names limit pool. ∣ fits is.within names limit pool ∣₁) names limit pool))

-- what the program of the scheme carries, the same parts carry
pub compiled_carries : (b : Bounds) (q : Asked) (p : Parts) → IsCompiled b q p
    → Carries b (parts_of b q) q → Carries b p q
compiled_carries b q p is carries = subst (λ p. Carries b p q) (sym is.parts) carries
