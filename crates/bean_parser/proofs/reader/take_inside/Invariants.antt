use Rattle.std.proofs.Common.{length}
use Rattle.bean_parser.specs.Taking.{TakesInside}
use Rattle.bean_parser.proofs.reader.take_inside.Given as goal

abbrev pub invariant-loop-token : goal.invariant-loop-token
invariant-loop-token l = TakesInside l.fn.lexer l.fn.block.items l.at l.block.items

abbrev pub decreases-loop-token : goal.decreases-loop-token
decreases-loop-token l = length l.at.rest.now
