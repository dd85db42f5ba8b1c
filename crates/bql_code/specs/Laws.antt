-- What holds of pools.
use Rattle.std.specs.Prelude.{◌≡◌, true, List, [], Some, slice_get}
use Rattle.std.specs.List.{AllByRecursion}
use Rattle.query_code.specs.declared.program.Constant.{Constant}
use Rattle.bql_code.specs.Pool.{index_in, pooled, same_constant}

-- an equal constant stands at its index
pub record StandsIn (pool : List Constant) (c : Constant) : Type 0 where
  pub there : Constant
  pub found : slice_get pool (index_in pool c) ≡ Some there
  pub is : same_constant c there ≡ true

-- whatever is used stands in the pool
abbrev pub PoolsHaveWhatIsUsed : Type 0
PoolsHaveWhatIsUsed = (cs : List Constant) → AllByRecursion (StandsIn (pooled [] cs)) cs
