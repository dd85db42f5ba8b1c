-- A stack, as its callers see it.
use Rattle.std.specs.Prelude.{ℕ, List}
use Rattle.query_values.specs.declared.value.Value.{Value}

-- the values, the top first, and how many of them there is room for
pub record Stack : Type 0 where
  pub values : List Value
  pub room : ℕ
