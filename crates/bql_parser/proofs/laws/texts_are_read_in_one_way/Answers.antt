use Rattle.bql_parser.proofs.OneQuery.{read_once, never_outside, never_both}
use Rattle.bql_parser.proofs.laws.texts_are_read_in_one_way.Goals as goal

pub returns-clause-once : goal.returns-clause-once
returns-clause-once c = read_once

pub returns-clause-apart : goal.returns-clause-apart
returns-clause-apart c = never_outside

pub returns-clause-told : goal.returns-clause-told
returns-clause-told c = never_both
