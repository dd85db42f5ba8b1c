-- What the sections of a program load is what their expressions read: of a row its cells, and of a
-- group its keys and aggregates.
use Rattle.std.proofs.Common.{◌≡◌, ℕ, true, false, List, [], ◌∷◌, map, Option}
use Rattle.std.proofs.Common.{Some, sym, ap, ◌∙◌}
use Rattle.std.proofs.lemmas.Option.{slice_get-map}
use Rattle.std.specs.Prelude.{option_map, slice_get}
use Rattle.limits.specs.declared.bounds.Bounds.{Bounds}
use Rattle.limits.specs.declared.bounds.Version.{Version}
use Rattle.bql_lowering.specs.Lowered.{of_a_row}
use Rattle.bql_meaning.proofs.SameFacts.{have_one_value}
use Rattle.bql_meaning.specs.Meaning.{value_of}
use Rattle.bql_meaning.specs.Reading.{Reading, at_first, cell, text}
use Rattle.bql_plan.proofs.LawFacts.{stands}
use Rattle.bql_plan.specs.Plan.{index_of}
use Rattle.bql_tree.specs.Tree.{Tree}
use Rattle.bql_types.specs.Sought.{is_key}
use Rattle.bql_compiler.specs.Reads.{IsOrNone, Reads}
use Rattle.plain_machine.specs.Loading.{Loads, cell_in}
use Rattle.plain_machine.specs.PlainMachine.{last_loads}
use Rattle.query_terms.specs.declared.column.Column.{Column}
use Rattle.query_terms.specs.declared.column.Column.TheVariants as column
use Rattle.query_rows.specs.Row.{Row}
use Rattle.query_values.specs.declared.value.Value.{Value}
use Rattle.bql_compiler.proofs.CarriedListFacts.{no_value, some_is}

-- ---- of a row

-- with a running inventory, or without
abbrev pub of_row : Version → Option Value → Row → Loads
of_row v balance r = record {
  schema = v;
  row = Some r;
  balance = balance;
  keys = [];
  aggregates = [];
}

pub row_reads : (b : Bounds) (v : Version) (balance : Option Value) (r : Row) (x : Value)
    → IsOrNone balance x
    → Reads b of_a_row (of_row v balance r) (record { row = r; balance = x } ∷ [])
row_reads b v balance r x given = record {
  cells = cells;
  texts = λ owner key w e. some_is (text owner key r) w e;
  keys = λ t e. absurd (none e);
  aggregates = λ t e. absurd (none e);
}
  where
    none : false ≡ true → ⊥
    none e = cc

    cells : (c : Column)
        → IsOrNone (cell_in (of_row v balance r) c) (cell c (record { row = r; balance = x }))
    cells column.Balance = given
    cells c = λ w e. some_is (r.cell c) w e

-- ---- of a group

-- what stands at the index of an expression has its value
at_index : (b : Bounds) (rows : List Reading) (ts : List (Tree ℕ)) (values : List Value)
    → values ≡ map (value_of b rows) ts → (t : Tree ℕ) → is_key ts t ≡ true
    → IsOrNone (slice_get values (index_of ts t)) (value_of b rows t)
at_index b rows ts values are t is v e =
    let s = stands ts t is in
    have_one_value b t s.tree s.is rows
    ∙ some_is (value_of b rows s.tree) v
    (sym (ap (option_map (value_of b rows)) s.there)
    ∙ sym (slice_get-map (value_of b rows) ts (index_of ts t))
    ∙ sym (ap (λ l. slice_get l (index_of ts t)) are) ∙ e)

pub group_reads : (b : Bounds) (v : Version) (rows : List Reading) (ks us : List (Tree ℕ))
    (keys aggregates : List Value) → keys ≡ map (value_of b rows) ks
    → aggregates ≡ map (value_of b rows) us
    → Reads b (record { keys = ks; aggregates = us }) (last_loads v keys aggregates) rows
group_reads b v rows ks us keys aggregates of_keys of_aggregates = record {
  cells = cells;
  texts = λ owner key w e. absurd (no_value w e);
  keys = λ t is. at_index b rows ks keys of_keys t is;
  aggregates = λ t is. at_index b rows us aggregates of_aggregates t is;
}
  where
    cells : (c : Column)
        → IsOrNone (cell_in (last_loads v keys aggregates) c) (at_first (cell c) rows)
    cells column.Balance = λ w e. absurd (no_value w e)
    cells c = λ w e. absurd (no_value w e)
