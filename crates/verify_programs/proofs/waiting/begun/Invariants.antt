use Rattle.std.proofs.Common.{◌≡◌, ◌∷◌, replicate}
use Rattle.plain_machine.specs.SectionRun.{start}
use Rattle.verify_programs.specs.declared.waiting.Waiting.TheVariants.{Nothing, Shaped}
use Rattle.verify_programs.proofs.waiting.begun.Given as goal

abbrev pub invariant-loop : goal.invariant-loop
invariant-loop l = l.waiting.items ≡ Shaped start ∷ replicate l.counter Nothing
