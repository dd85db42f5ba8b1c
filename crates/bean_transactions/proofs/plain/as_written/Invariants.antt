use Rattle.std.proofs.Common.{List, ◌++◌, reverse, take}
use Rattle.bean_postings.specs.declared.posting.Posting.{Posting}
use Rattle.bean_transactions.specs.Plain.{AreAsWritten}
use Rattle.bean_transactions.proofs.plain.as_written.Given as goal

-- those of the postings so far
abbrev pub invariant-loop-posting : goal.invariant-loop-posting
invariant-loop-posting l =
    (before : List Posting) → AreAsWritten (reverse before) l.fn.front.items
    → AreAsWritten (reverse (before ++ take l.posting-index l.rest)) l.posted.items
