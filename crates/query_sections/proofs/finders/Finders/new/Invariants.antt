use Rattle.std.proofs.Common.{◌≡◌, take}
use Rattle.query_sections.proofs.finders.Finders.new.Given as goal

abbrev pub invariant-loop-pattern : goal.invariant-loop-pattern
invariant-loop-pattern l = l.finders.items ≡ take l.pattern-index l.patterns
