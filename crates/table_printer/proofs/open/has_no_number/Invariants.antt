use Rattle.std.proofs.Common.{◌≡◌, ◌<◌, ℕ, false}
use Rattle.table_printer.specs.Table.{is_number_at, row_at}
use Rattle.table_printer.proofs.open.has_no_number.Given as goal

abbrev pub invariant-loop-number : goal.invariant-loop-number
invariant-loop-number g l =
    (k : ℕ) → k < l.number → is_number_at l.column (row_at (g.T.Rows.rows l.table) k) ≡ false
