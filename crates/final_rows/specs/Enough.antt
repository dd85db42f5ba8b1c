-- Rows that are enough of more: the same comes out of them, whatever rows follow.
use Rattle.std.specs.Prelude.{◌≡◌, ℕ, ◌+◌, ◌≤◌, ◌||◌, Bool, nat_lt, true, List, [], ◌∷◌, ◌++◌, length, Option, Some}
use Rattle.std.specs.Prelude.{None, if◌then◌else◌}
use Rattle.std.specs.List.{list_all}
use Rattle.plain_machine.specs.Finishing.{ComesOut}
use Rattle.query_answer.specs.Rows.{row_at}
use Rattle.query_code.specs.declared.program.Output.{Output}
use Rattle.query_values.specs.declared.value.Value.{Value}
use Rattle.final_rows.specs.Order.{comes_before}

-- what holds of each of the rows holds of each of those that are kept
abbrev pub AreAmong : List (List Value) → List (List Value) → Type 0
AreAmong kept rows =
    (holds : List Value → Bool) → list_all holds rows ≡ true → list_all holds kept ≡ true

-- what comes out of those that are kept, with others behind them, comes out of all, with these behind
abbrev pub ComeOutAlike : Output → List (List Value) → List (List Value) → Type 0
ComeOutAlike o kept rows =
    (more final : List (List Value)) → ComesOut o (kept ++ more) final
    → ComesOut o (rows ++ more) final

pub record AreEnough (o : Output) (kept rows : List (List Value)) : Type 0 where
  pub among : AreAmong kept rows
  pub alike : ComeOutAlike o kept rows

-- so many rows in the front of the order are enough, where they aren't told once
abbrev pub enough_of : Output → Option ℕ
enough_of o = if o.is_distinct then None else o.limit

-- at most twice as many as are enough
abbrev pub AreFew : Output → List (List Value) → Type 0
AreFew o rows = (most : ℕ) → enough_of o ≡ Some most → length rows ≤ most + most

-- the rows in front stay, and those that come before one
abbrev pub stays : Output → List (List Value) → ℕ → List Value → ℕ → Bool
stays o rows most last n = nat_lt n most || comes_before o (row_at rows n) last

-- the one of two rows that comes later, the first where they tie
abbrev pub later_of : Output → List Value → List Value → List Value
later_of o a b = if comes_before o a b then b else a

-- the last of a row and others
abbrev pub last_from : Output → List Value → List (List Value) → List Value
last_from o last [] = last
last_from o last (row ∷ rows) = last_from o (later_of o last row) rows

-- the last of some rows; one without values where there is none
abbrev pub last_of : Output → List (List Value) → List Value
last_of o [] = []
last_of o (row ∷ rows) = last_from o row rows
