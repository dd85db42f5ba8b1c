use Rattle.bean_parser.specs.Taking.{left_of}
use Rattle.bean_includes.proofs.IncludesFacts.{IsRead}
use Rattle.bean_includes.proofs.includes.include_lines.Given as goal

abbrev pub invariant-loop-block : goal.invariant-loop-block
invariant-loop-block l = IsRead l.text l.lexer l.found.items

abbrev pub decreases-loop-block : goal.decreases-loop-block
decreases-loop-block l = left_of l.lexer
