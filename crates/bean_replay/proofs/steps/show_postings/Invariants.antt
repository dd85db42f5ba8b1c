use Rattle.std.proofs.Common.{◌≡◌, ◌+◌, ◌++◌, List, take}
use Rattle.bean_replay.specs.Stand.{steps_of_postings}
use Rattle.bean_pad.specs.Following.{Follows, IsBounded, steps_in}
use Rattle.bean_pad.specs.declared.step.Step.{Step}
use Rattle.bean_replay.proofs.steps.show_postings.Given as goal

abbrev pub invariant-loop-one : goal.invariant-loop-one
invariant-loop-one l = record {
  near : IsBounded l.padder;
  steps : steps_in l.padder ≡ steps_in l.initial.padder + l.one-index;
  follows : (past : List Step) → Follows past l.initial.padder
      → Follows (steps_of_postings (take l.one-index l.posted) ++ past) l.padder;
}
