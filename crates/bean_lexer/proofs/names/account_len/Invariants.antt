use Rattle.std.proofs.Common.{◌-◌, length}
use Rattle.bean_lexer.proofs.AccountFacts.{ReadsNames}
use Rattle.bean_lexer.proofs.names.account_len.Given as goal

abbrev pub invariant-loop-len : goal.invariant-loop-len
invariant-loop-len l = ReadsNames l.bytes l.root l.len

abbrev pub decreases-loop-len : goal.decreases-loop-len
decreases-loop-len l = length l.bytes - l.len
