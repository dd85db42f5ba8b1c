-- The clauses of a query, over what they are made of: targets T, expressions E, items I of GROUP BY
-- and ORDER BY, and what stands behind AT.
use Rattle.std.specs.Prelude.{ℕ, Bool, List, Option}

-- FROM and WHERE
pub record Filters (E : Type 0) : Type 0 where
  pub from : Option E
  pub filter : Option E

pub record Order (I : Type 0) : Type 0 where
  pub items : List I
  pub descending : Bool

pub record Select (T E I : Type 0) : Type 0 where
  pub distinct : Bool
  pub targets : List T
  pub filters : Filters E
  pub group : Option (List I)
  pub order : Order I
  pub limit : Option ℕ

pub record Journal (V E : Type 0) : Type 0 where
  pub pattern : Option (List ℕ)
  pub at : Option V
  pub from : Option E

pub record Balances (V E : Type 0) : Type 0 where
  pub at : Option V
  pub filters : Filters E

pub data Query (T E I V : Type 0) : Type 0 where
  selecting : Select T E I → Query T E I V
  journaling : Journal V E → Query T E I V
  balancing : Balances V E → Query T E I V
