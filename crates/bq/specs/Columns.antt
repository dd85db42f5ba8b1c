-- The columns that `list` shows.
use Rattle.std.specs.Prelude.{ℕ, zero, suc, List, [], ◌∷◌}
use Rattle.query_terms.specs.declared.column.Column.{Column}
use Rattle.query_terms.specs.declared.column.Column.TheVariants.{Date, Flag, Account, Position}

-- the column of that number, from 0
abbrev pub column_at : ℕ → Column
column_at zero = Date
column_at (suc zero) = Flag
column_at (suc (suc zero)) = Account
column_at (suc (suc (suc n))) = Position

abbrev pub shown : List Column
shown = Date ∷ Flag ∷ Account ∷ Position ∷ []
