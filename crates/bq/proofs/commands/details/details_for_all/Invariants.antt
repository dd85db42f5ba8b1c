use Rattle.std.proofs.Common.{take}
use Rattle.std.specs.List.{AllByRecursion}
use Rattle.query_tables.specs.Unread.{FileNeedsNoAccounts}
use Rattle.bq.proofs.commands.details.details_for_all.Given as goal

-- none of those so far reads them
abbrev pub invariant-loop-file : goal.invariant-loop-file
invariant-loop-file l = AllByRecursion FileNeedsNoAccounts (take l.file-index l.files)
