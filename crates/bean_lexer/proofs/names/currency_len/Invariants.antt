use Rattle.bean_lexer.proofs.CurrencyFacts.{TrimsCurrency}
use Rattle.bean_lexer.proofs.names.currency_len.Given as goal

abbrev pub invariant-loop-len : goal.invariant-loop-len
invariant-loop-len l = TrimsCurrency l.bytes l.len

abbrev pub decreases-loop-len : goal.decreases-loop-len
decreases-loop-len l = l.len
