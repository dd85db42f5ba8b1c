use Rattle.std.proofs.Common.{take, false}
use Rattle.std.specs.List.{AllByRecursion}
use Rattle.bean_replay.specs.Watched.{IsWatched}
use Rattle.bean_replay.proofs.steps.are_watched.Given as goal

abbrev pub invariant-loop-directive : goal.invariant-loop-directive
invariant-loop-directive l =
    AllByRecursion (IsWatched false) (take l.directive-index l.directives)
