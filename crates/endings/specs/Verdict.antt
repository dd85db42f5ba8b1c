-- What an answer says, and the status that tells it.
use Rattle.std.specs.Prelude.{ℕ, Bool, true, false, List}
use Rattle.bean_base.specs.declared.fault.Fault.{Fault}
use Rattle.fault_printer.specs.Lines.{are_serious}
use Rattle.endings.specs.declared.verdict.Verdict.{Verdict}
use Rattle.endings.specs.declared.verdict.Verdict.TheVariants.{Fine, Faulty, OutsideBounds, OutOfMemory}

abbrev pub verdict_by : Bool → Verdict
verdict_by true = Faulty
verdict_by false = Fine

-- books have faults where one of these says more than F5
abbrev pub verdict_of : List Fault → Verdict
verdict_of faults = verdict_by (are_serious faults)

abbrev pub status_of : Verdict → ℕ
status_of Fine = 0
status_of Faulty = 1
status_of OutsideBounds = 2
status_of OutOfMemory = 4
