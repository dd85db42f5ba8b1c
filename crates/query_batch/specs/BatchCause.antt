-- What users are told of a run that isn't there.
use Rattle.std.specs.Prelude.{ℕ, List, codes, Option, None}
use Rattle.query_batch.specs.declared.cause.BatchCause.{BatchCause}
use Rattle.query_batch.specs.declared.cause.BatchCause.TheVariants.{NoSuchRun}

abbrev pub code_of : BatchCause → List ℕ
code_of NoSuchRun = codes "Z1"

abbrev pub place_of : BatchCause → Option ℕ
place_of cause = None
