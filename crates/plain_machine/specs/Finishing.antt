-- How the rows of a program come out.
use Rattle.std.specs.Prelude.{ℕ, Bool, List, length, map, take, slice_index_or}
use Rattle.std.specs.List.{list_all}
use Rattle.query_values.specs.Operand.{are_in_order}
use Rattle.query_values.specs.declared.value.Value.{Value}
use Rattle.query_values.specs.declared.value.Value.TheVariants.{Null}
use Rattle.query_code.specs.declared.program.Output.{Output}
use Rattle.query_rows.specs.FinalRows.{Ranked, Finish, IsFinal}

abbrev pub column_of : List Value → ℕ → Value
column_of row i = slice_index_or row i Null

-- a row shows the values of the targets, and is ordered by those that the program names
abbrev pub ranked : Output → List Value → Ranked
ranked o row = record { shown = take (length o.targets) row; ranks = map (column_of row) o.order }

abbrev pub finish_of : Output → Finish
finish_of o =
    record { is_descending = o.is_descending; is_distinct = o.is_distinct; limit = o.limit }

-- what comes out where these are the rows at the end
abbrev pub ComesOut : Output → List (List Value) → List (List Value) → Type 0
ComesOut o rows final = IsFinal (finish_of o) (map (ranked o) rows) final

-- ---- what can be ordered

-- two rows have values to order by that stand in one order: each of one kind and of the same
-- decimals
abbrev pub have_order : List ℕ → List Value → List Value → Bool
have_order order a b = list_all (λ i. are_in_order (column_of a i) (column_of b i)) order

-- any two of the rows have
abbrev pub are_orderable : List ℕ → List (List Value) → Bool
are_orderable order rows = list_all (λ a. list_all (have_order order a) rows) rows
