-- What entries say, wherever they lie.
use Rattle.std.specs.Prelude.{ℕ, List, Option, Some, None, Result, Ok, Err, Vec}
use Rattle.std.specs.String.{string_bytes}
use Rattle.stores.specs.Reading.{Reading}
use Rattle.stores.specs.Putting.{Putting}
use Rattle.stores.specs.declared.memory.Request.{Request}
use Rattle.stores.specs.declared.memory.StoredFile.{StoredFile}
use Rattle.stores.specs.declared.source.SourceFault.{SourceFault}
use Rattle.stores.specs.declared.source.SourceFault.TheVariants.{Failed}

abbrev pub given : {Z : Type 0} → Option (Vec ℕ Z) → Result (List ℕ) SourceFault
given (Some bytes) = Ok bytes.items
given None = Err Failed

abbrev pub reading_of : Request → Reading
reading_of asked = (string_bytes asked.name, given asked.bytes)

abbrev pub putting_of : StoredFile → Putting
putting_of entry = (string_bytes entry.name, entry.bytes.items)
