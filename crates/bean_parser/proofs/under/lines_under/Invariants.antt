use Rattle.std.proofs.Common.{length}
use Rattle.bean_parser.specs.Block.{lines}
use Rattle.bean_parser.specs.Reading.{InLines}
use Rattle.bean_parser.proofs.under.lines_under.Given as goal

abbrev pub invariant-loop-line : goal.invariant-loop-line
invariant-loop-line l =
    InLines l.in_transaction (lines l.under) (lines l.rest.tokens.now) l.body

abbrev pub decreases-loop-line : goal.decreases-loop-line
decreases-loop-line l = length l.rest.tokens.now
