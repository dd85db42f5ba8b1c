-- How runs begin, and what whole runs answer.
use Rattle.std.specs.Prelude.{◌≡◌, true, false, Result, Ok, Err}
use Rattle.plain_machine.specs.Answer.{NeverFaults}
use Rattle.posting_table.specs.Ledger.{Ledger}
use Rattle.posting_table.specs.Rows.{rows_of}
use Rattle.query_answer.specs.declared.answer.Answer.{Answer}
use Rattle.query_machine.specs.Run.{At, Run}
use Rattle.query_machine.specs.RunOf.{IsRunOf}
use Rattle.query_machine.specs.declared.cause.RunCause.{RunCause}
use Rattle.query_machine.specs.declared.cause.RunCause.TheVariants.{OutsideBounds}
use Rattle.query_rows.specs.Fits.{fits}
use Rattle.refusals.specs.declared.refusal.Refusal.{Refusal}
use Rattle.refusals.specs.declared.refusal.Refusal.TheVariants.{OutOfMemory, Refused}
use Rattle.verified_program.specs.declared.checked.Checked.{Checked}

module _ (c : Checked) (l : Ledger) where
  -- the ledger is within the program's bounds
  abbrev pub IsWithin : Type 0
  IsWithin = fits c.program.parts.bounds (rows_of l) ≡ true

  abbrev pub IsOutside : Type 0
  IsOutside = fits c.program.parts.bounds (rows_of l) ≡ false

  -- a run that has made no step, and never meets a fault
  pub record IsBegun (r : Run) : Type 0 where
    pub within : IsWithin
    pub never_faults : NeverFaults c.program.parts (rows_of l)
    pub is : r ≡ record { parts = c.program.parts; ledger = l; place = At 0 }

  -- a run begins exactly where the ledger is within the bounds, unless memory lacks for it
  abbrev pub Starts : Result Run (Refusal RunCause) → Type 0
  Starts (Ok r) = IsBegun r
  Starts (Err OutOfMemory) = IsWithin
  Starts (Err (Refused OutsideBounds)) = IsOutside

  -- and then it answers what it is to answer
  abbrev pub Runs : Result Answer (Refusal RunCause) → Type 0
  Runs (Ok answer) = IsWithin × IsRunOf c.program.parts (rows_of l) answer
  Runs (Err OutOfMemory) = IsWithin
  Runs (Err (Refused OutsideBounds)) = IsOutside
