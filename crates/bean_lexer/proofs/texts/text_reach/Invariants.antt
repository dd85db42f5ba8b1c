use Rattle.std.proofs.Common.{◌-◌, length}
use Rattle.bean_lexer.proofs.TextFacts.{ReadsText}
use Rattle.bean_lexer.proofs.texts.text_reach.Given as goal

abbrev pub invariant-pieces : goal.invariant-pieces
invariant-pieces l = ReadsText l.bytes l.len l.escapes_known

abbrev pub decreases-pieces : goal.decreases-pieces
decreases-pieces l = length l.bytes - l.len
