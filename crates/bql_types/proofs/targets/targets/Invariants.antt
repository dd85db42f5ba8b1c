use Rattle.std.proofs.Common.{◌≡◌, ◌++◌, drop, map}
use Rattle.bql_parser.specs.View.{target_of}
use Rattle.bql_types.specs.Cause.{told}
use Rattle.bql_types.specs.Keys.{grouping_of}
use Rattle.bql_types.specs.Named.{seen_of}
use Rattle.bql_types.specs.Typing as rule
use Rattle.bql_types.proofs.targets.targets.Given as goal

-- what is seen and found so far, with those that are left, is what is seen and found in all
abbrev pub invariant-loop-target : goal.invariant-loop-target
invariant-loop-target l = record {
  seen : l.seen.items ++ map (seen_of l.bounds) (map target_of (drop l.target-index l.targets))
      ≡ map (seen_of l.bounds) (map target_of l.targets);
  found : told l.found (rule.each (rule.target_causes l.bounds (grouping_of l.grouping))
      (map target_of (drop l.target-index l.targets)))
      ≡ told l.initial.found (rule.each (rule.target_causes l.bounds (grouping_of l.grouping))
      (map target_of l.targets));
}
