-- What decoding answers.
use Rattle.std.specs.Prelude.{◌≡◌, Result, Ok, Err}
use Rattle.query_code.specs.declared.program.Parts.{Parts}
use Rattle.query_code.specs.declared.program.Program.{Program}
use Rattle.query_code.specs.declared.cause.FileCause.{FileCause}
use Rattle.refusals.specs.declared.refusal.Refusal.{Refusal}
use Rattle.refusals.specs.declared.refusal.Refusal.TheVariants.{OutOfMemory, Refused}

-- what the bytes are, unless memory ran out
abbrev pub Decodes : Result Program (Refusal FileCause) → Result Parts FileCause → Type 0
Decodes (Ok p) answer = answer ≡ Ok p.parts
Decodes (Err OutOfMemory) answer = Unit {0}
Decodes (Err (Refused refusal)) answer = answer ≡ Err refusal
