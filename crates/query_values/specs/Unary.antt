-- Operations on one value, each with what it needs beside the value.
use Rattle.std.specs.Prelude.{ℕ, List}
use Rattle.query_values.specs.declared.value.Value.{Value}

-- Align: to so many decimals. Match, MatchAny: whether a text, some member of a set, has the
-- pattern. InList: whether a value is among these. Root: so many components of an account.
pub data Unary : Type 0 where
  Align : (places : ℕ) → Unary
  Neg : Unary
  Abs : Unary
  Not : Unary
  IsNull : Unary
  Match : (pattern : List ℕ) → Unary
  MatchAny : (pattern : List ℕ) → Unary
  InList : List Value → Unary
  Year : Unary
  Month : Unary
  Day : Unary
  Root : (components : ℕ) → Unary
  Parent : Unary
  Leaf : Unary
  Length : Unary
  Units : Unary
  Cost : Unary
  Number : Unary
  Currency : Unary
  RootRank : Unary
