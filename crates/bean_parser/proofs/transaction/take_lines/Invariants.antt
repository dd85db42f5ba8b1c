use Rattle.std.proofs.Common.{◌≡◌, List, length}
use Rattle.bean_directives.specs.declared.directive.Directive.{Directive}
use Rattle.bean_directives.specs.declared.transaction.Transaction.{Transaction}
use Rattle.bean_postings.specs.declared.posting.Posting.{Posting}
use Rattle.bean_parser.specs.Plain.{HasSaid, IsKept, TakesUnder}
use Rattle.bean_parser.specs.Taking.{left_of}
use Rattle.bean_parser.specs.Under.{no_lines, with_lines}
use Rattle.bean_parser.specs.declared.under.LineKind.{LineKind}
use Rattle.bean_parser.proofs.transaction.take_lines.Given as goal

abbrev pub invariant-loop-first : goal.invariant-loop-first
invariant-loop-first l = record {
  kept : IsKept l.before l.fn.postings.items l.postings.items;
  said : (head : Directive) (t : Transaction) (others : List Posting) → length others ≡ l.before
      → HasSaid head t others no_lines l.fn.directive l.fn.postings.items
      → (ks : List LineKind) × TakesUnder l.fn.lexer l.lexer ks
      × HasSaid head t others (with_lines no_lines ks) l.directive l.postings.items;
}

abbrev pub decreases-loop-first : goal.decreases-loop-first
decreases-loop-first l = left_of l.lexer
