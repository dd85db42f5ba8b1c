-- How the process ends.
use Rattle.std.specs.Prelude.{◌≡◌, ◌⊎◌, ℕ, Result, Ok, Err}
use Rattle.std.specs.declared.io.ErrorKind.{ErrorKind}
use Rattle.std.specs.declared.io.ErrorKind.TheVariants as kinds
use Rattle.bq.specs.Runs.{status_of_run}
use Rattle.endings.specs.declared.refusal.Refusal.{Refusal}
use Rattle.endings.specs.declared.refusal.Cause.TheVariants.{Words}
use Rattle.endings.specs.declared.refusal.Refusal.TheVariants.{OutOfMemory, Refused}
use Rattle.endings.specs.declared.verdict.Verdict.{Verdict}

-- why the words can't be had, by the kind of the error: memory lacked, or they are no text
abbrev pub IsRefusedBy : ErrorKind → Refusal → Type 0
IsRefusedBy kind (Refused Words) = ¬ (kind ≡ kinds.OutOfMemory)
IsRefusedBy kind OutOfMemory = kind ≡ kinds.OutOfMemory
IsRefusedBy kind _ = ⊥

-- the status of some answer or refusal
abbrev pub IsStatus : ℕ → Type 0
IsStatus status = (result : Result Verdict Refusal) × (status ≡ status_of_run result)

-- a run ends with the status of its answer or refusal; where there is none, the words weren't had
abbrev pub EndsOrLacksWords : Result ℕ Refusal → Type 0
EndsOrLacksWords (Ok status) = IsStatus status
EndsOrLacksWords (Err r) = (r ≡ Refused Words) ⊎ (r ≡ OutOfMemory)
