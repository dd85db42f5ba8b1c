use Rattle.std.proofs.Common.{drop}
use Rattle.well_shaped.specs.Ends.{gathered}
use Rattle.verify_programs.proofs.GatheredFacts.{Gathering}
use Rattle.verify_programs.proofs.ends.gathered.Given as goal

abbrev pub invariant-loop-aggregate : goal.invariant-loop-aggregate
invariant-loop-aggregate l =
    Gathering l.fn.most (gathered l.fn.most l.aggregates l.fn.inputs) l.is_wide l.totals
    (drop l.aggregate-index l.aggregates) l.rest
