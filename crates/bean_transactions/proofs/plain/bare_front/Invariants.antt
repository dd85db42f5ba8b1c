use Rattle.std.proofs.Common.{◌≡◌, length}
use Rattle.bean_transactions.specs.Plain.{IsBareFront}
use Rattle.bean_transactions.proofs.plain.bare_front.Given as goal

-- those of the postings so far
abbrev pub invariant-loop-posting : goal.invariant-loop-posting
invariant-loop-posting l =
    (length l.posted.items ≡ l.posting-index) × IsBareFront l.postings l.posted.items
