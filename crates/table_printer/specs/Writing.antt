-- What writing a table comes to.
use Rattle.std.specs.Prelude.{◌≡◌, ℕ, ◌<◌, List, length, Result, Ok, Err}
use Rattle.outputs.specs.Output.{TookFront}
use Rattle.outputs.specs.declared.output.Output.{Ghosts as OutputOf}
use Rattle.refusals.specs.declared.refusal.Refusal.{Refusal}
use Rattle.refusals.specs.declared.refusal.Refusal.TheVariants.{OutOfMemory, Refused}
use Rattle.table_printer.specs.declared.cause.PrintCause.{PrintCause}
use Rattle.table_printer.specs.declared.cause.PrintCause.TheVariants.{NotWritten}

-- the output took the whole text, or its front of the stated length and then nothing, or none for
-- want of memory
abbrev pub WritesTable : {W : Type 0} → OutputOf W → W → W → List ℕ → Result ℕ (Refusal PrintCause) → Type 0
WritesTable output old new text (Ok n) =
    (n ≡ length text) × TookFront output old new text (length text)
WritesTable output old new text (Err (Refused (NotWritten n))) =
    (n < length text) × TookFront output old new text n
WritesTable output old new text (Err OutOfMemory) = new ≡ old
