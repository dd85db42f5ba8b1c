-- What a ledger holds of a row.
use Rattle.std.specs.Prelude.{ℕ, ℤ, pos, ◌*ℤ◌, ◌^◌, List, Option, Some, None}
use Rattle.posting_table.specs.declared.row.Weight.{Weight}

-- a weight that is held; where none is, that of the units by themselves
abbrev pub weight_in : List ℕ → ℤ → Option Weight → Weight
weight_in currency n None = record { count = n *ℤ pos (10 ^ 8); currency = currency }
weight_in currency n (Some weight) = weight
