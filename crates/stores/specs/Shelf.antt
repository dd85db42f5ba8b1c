-- What a store over memory holds.
use Rattle.std.specs.Prelude.{ℕ, List}
use Rattle.stores.specs.Reading.{Reading}
use Rattle.stores.specs.Putting.{Putting}

-- The files that it had from the start and those that were put, in order; what it was asked for;
-- how often it failed, how often it was called, and the call that fails, from 1.
pub record Shelf : Type 0 where
  pub files : List Putting
  pub kept : List Putting
  pub told : List Reading
  pub failures : ℕ
  pub calls : ℕ
  pub fails_at : ℕ
