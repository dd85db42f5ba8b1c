-- What a short writer holds.
use Rattle.std.specs.Prelude.{ℕ, Bool, List}

-- the bytes that it took, how many it takes at most, whether memory was ever refused to it, and how
-- often it refused
pub record Holding : Type 0 where
  pub taken : List ℕ
  pub limit : ℕ
  pub starved : Bool
  pub refusals : ℕ
