-- What users are told of a ledger that can't be read.
use Rattle.std.specs.Prelude.{ℕ, List, codes, Option, None}
use Rattle.bean_load.specs.declared.cause.LoadCause.{LoadCause}
use Rattle.bean_load.specs.declared.cause.LoadCause.TheVariants.{Unreadable, NotUtf8, TooLarge}

abbrev pub code_of : LoadCause → List ℕ
code_of Unreadable = codes "L1"
code_of NotUtf8 = codes "L2"
code_of TooLarge = codes "L3"

-- it is told of a whole text
abbrev pub place_of : LoadCause → Option ℕ
place_of cause = None
