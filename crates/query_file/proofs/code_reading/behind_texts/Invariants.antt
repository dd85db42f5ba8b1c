use Rattle.std.proofs.Common.{◌-◌}
use Rattle.query_file.proofs.PassingFacts.{IsPassing}
use Rattle.query_file.proofs.code_reading.behind_texts.Given as goal

abbrev pub invariant-loop : goal.invariant-loop
invariant-loop l = IsPassing (l.len - l.counter) l.rest l.len l.bytes
