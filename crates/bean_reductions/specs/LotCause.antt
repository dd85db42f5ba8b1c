-- What users are told of a reduction that isn't made.
use Rattle.std.specs.Prelude.{ℕ, List, codes, Option, None}
use Rattle.bean_reductions.specs.declared.cause.LotCause.{LotCause}
use Rattle.bean_reductions.specs.declared.cause.LotCause.TheVariants as cause

abbrev pub code_of : LotCause → List ℕ
code_of cause.NoLotMatches = codes "F13"
code_of cause.AmbiguousLots = codes "F14"
code_of cause.NotEnoughUnits = codes "F15"

-- which line it stands on, the caller knows
abbrev pub place_of : LotCause → Option ℕ
place_of cause = None
