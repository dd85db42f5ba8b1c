use Rattle.std.proofs.Common.{◌-◌, length}
use Rattle.bean_lexer.proofs.NumberFacts.{ReadsWhole}
use Rattle.bean_lexer.proofs.digits.number_len.Given as goal

abbrev pub invariant-loop-len : goal.invariant-loop-len
invariant-loop-len l = ReadsWhole l.bytes l.len

abbrev pub decreases-loop-len : goal.decreases-loop-len
decreases-loop-len l = length l.bytes - l.len
