use Rattle.std.proofs.Common.{◌≡◌, ◌++◌, drop}
use Rattle.bq.specs.Batch.{text_of}
use Rattle.bq.proofs.commands.batch.text_of.Given as goal

-- what is there so far, with what is told of those that are left, is what is told of all
abbrev pub invariant-loop-number : goal.invariant-loop-number
invariant-loop-number l =
    l.text.items ++ text_of (drop l.number l.names) (drop l.number l.fates)
    ≡ text_of l.names l.fates
