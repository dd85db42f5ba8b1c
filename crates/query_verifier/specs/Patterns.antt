-- The patterns of a pool, or the entry of which none was built.
use Rattle.std.specs.Prelude.{◌≡◌, ℕ, true, List, map, Option, Result, Ok, Err}
use Rattle.refusals.specs.declared.refusal.Refusal.{Refusal}
use Rattle.refusals.specs.declared.refusal.Refusal.TheVariants.{OutOfMemory, Refused}
use Rattle.query_code.specs.declared.program.Constant.{Constant}
use Rattle.plain_machine.specs.Pool.{pattern_at, pattern_in}
use Rattle.well_shaped.specs.Laws.{is_some}

-- only a pattern may not be built
abbrev pub Builds : {U : Type 0} → Constant → Result (Option (List ℕ)) (Refusal U) → Type 0
Builds c (Ok pattern) = pattern ≡ pattern_in c
Builds c (Err OutOfMemory) = Unit {0}
Builds c (Err (Refused u)) = is_some (pattern_in c) ≡ true

abbrev pub BuildsAll : List Constant → Result (List (Option (List ℕ))) (Refusal ℕ) → Type 0
BuildsAll pool (Ok patterns) = patterns ≡ map pattern_in pool
BuildsAll pool (Err OutOfMemory) = Unit {0}
BuildsAll pool (Err (Refused number)) = is_some (pattern_at pool number) ≡ true
