use Rattle.bean_grammar.proofs.MetadataFacts.{reads_plain_value, reads_numeric, none_value}
use Rattle.bean_grammar.proofs.entry.value.Goals as goal

pub returns-in-Some-clause-read : goal.returns-in-Some-clause-read
returns-in-Some-clause-read c = reads_plain_value _ _ _ c.in-Some.ensures.read

pub returns-in_err-number-clause-read : goal.returns-in_err-number-clause-read
returns-in_err-number-clause-read c =
    rw c.from_residual.ensures (none_value _ c.in_default.ensures.read c.in_err-number.ensures.read)

pub returns-clause-read : goal.returns-clause-read
returns-clause-read c =
    rw c.number_value.ensures
    (reads_numeric _ _ _ _ _ c.in_default.ensures.read c.in_ok-number.ensures.read
    c.currency_if_due-currency.ensures.read)
