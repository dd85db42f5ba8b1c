use Rattle.std.proofs.Common.{take}
use Rattle.std.specs.List.{AllByRecursion}
use Rattle.query_batch.specs.Rounds.{IsBrief}
use Rattle.query_batch.proofs.rounds.most_steps.Given as goal

abbrev pub invariant-loop-program : goal.invariant-loop-program
invariant-loop-program l =
    AllByRecursion (IsBrief l.postings l.most) (take l.program-index l.programs)
