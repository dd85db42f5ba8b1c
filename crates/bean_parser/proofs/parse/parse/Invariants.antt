use Rattle.bean_parser.specs.Taking.{left_of}
use Rattle.bean_parser.proofs.ParsedFacts.{InText}
use Rattle.bean_parser.proofs.parse.parse.Given as goal

abbrev pub invariant-loop-block : goal.invariant-loop-block
invariant-loop-block l = InText l.text l.lexer l.gathered

abbrev pub decreases-loop-block : goal.decreases-loop-block
decreases-loop-block l = left_of l.lexer
