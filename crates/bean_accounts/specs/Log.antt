-- What is found of faults, where anyone asks.
use Rattle.std.specs.Prelude.{Bool, true, false, List, [], ◌++◌}
use Rattle.bean_accounts.specs.declared.log.FaultLog.{FaultLog}
use Rattle.bean_accounts.specs.declared.log.FaultLog.TheVariants as log
use Rattle.bean_base.specs.declared.fault.Fault.{Fault}

abbrev pub is_kept : FaultLog → Bool
is_kept (log.Kept found) = true
is_kept log.Off = false

abbrev pub found : FaultLog → List Fault
found (log.Kept fs) = fs
found log.Off = []

-- these faults, where anyone asks
abbrev pub asked_for : Bool → List Fault → FaultLog
asked_for true fs = log.Kept fs
asked_for false fs = log.Off

abbrev pub emptied : FaultLog → FaultLog
emptied l = asked_for (is_kept l) []

-- behind these faults, which are kept where anyone asks
abbrev pub with_found : List Fault → FaultLog → FaultLog
with_found fs (log.Kept before) = log.Kept (before ++ fs)
with_found fs log.Off = log.Off
