-- What users are told of a ledger that isn't booked.
use Rattle.std.specs.Prelude.{ℕ, List, codes, Option, None}
use Rattle.bean_replay.specs.declared.cause.BookCause.{BookCause}
use Rattle.bean_replay.specs.declared.cause.BookCause.TheVariants.{TooManyPostings}

abbrev pub code_of : BookCause → List ℕ
code_of TooManyPostings = codes "B1"

-- it is told of a whole ledger
abbrev pub place_of : BookCause → Option ℕ
place_of cause = None
