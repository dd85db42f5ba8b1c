-- The bytes of a text, wherever they lie.
use Rattle.std.specs.Prelude.{ℕ, List}
use Rattle.std.specs.String.{string_bytes}
use Rattle.posting_entries.specs.declared.plain_text.Bytes.{Bytes}
use Rattle.posting_entries.specs.declared.plain_text.Bytes.TheVariants.{Lent, Made}

abbrev pub bytes_of : Bytes → List ℕ
bytes_of (Lent slice) = slice
bytes_of (Made text) = string_bytes text
