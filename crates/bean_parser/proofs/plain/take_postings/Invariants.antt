use Rattle.std.proofs.Common.{◌≡◌, ◌++◌, List, map}
use Rattle.bean_postings.specs.declared.posting.Posting.{Posting}
use Rattle.bean_parser.specs.Plain.{TakesUnder}
use Rattle.bean_parser.specs.Taking.{left_of}
use Rattle.bean_parser.specs.Under.{said_posting}
use Rattle.bean_parser.proofs.plain.take_postings.Given as goal

abbrev pub invariant-loop-posting : goal.invariant-loop-posting
invariant-loop-posting l =
    (ps : List Posting) × (l.postings.items ≡ l.fn.postings.items ++ ps)
    × TakesUnder l.fn.lexer l.lexer (map said_posting ps) × (l.at ≡ l.lexer)

abbrev pub decreases-loop-posting : goal.decreases-loop-posting
decreases-loop-posting l = left_of l.at
