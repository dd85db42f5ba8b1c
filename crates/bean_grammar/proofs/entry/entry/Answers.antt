use Rattle.bean_grammar.proofs.MetadataFacts.{reads_entry, reads_empty_entry, none_keyed}
use Rattle.bean_grammar.proofs.MetadataFacts.{no_value_entry}
use Rattle.bean_grammar.proofs.entry.entry.Goals as goal

pub returns-in_err-key-clause-read : goal.returns-in_err-key-clause-read
returns-in_err-key-clause-read c =
    rw c.from_residual.ensures (none_keyed _ c.in_err-key.ensures.front)

pub returns-in_default-clause-read : goal.returns-in_default-clause-read
returns-in_default-clause-read c =
    reads_empty_entry _ _ _ c.in_ok-key.ensures.front c.in_default.ensures.front

pub returns-in_err-value-clause-read : goal.returns-in_err-value-clause-read
returns-in_err-value-clause-read c =
    rw c.from_residual-in_err-value.ensures
    (no_value_entry _ _ _ _ _ c.in_ok-key.ensures.front c.in-Some.ensures.front
    c.in_err-value.ensures.read)

pub returns-clause-read : goal.returns-clause-read
returns-clause-read c =
    rw c.entry_of.ensures
    (reads_entry _ _ _ _ _ c.in_ok-key.ensures.front c.in_ok-value.ensures.read)
