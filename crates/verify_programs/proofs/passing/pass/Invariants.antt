use Rattle.well_shaped.specs.Sections.{shape_acts}
use Rattle.verify_programs.specs.Pass.{Stands}
use Rattle.verify_programs.proofs.passing.pass.Given as goal

abbrev pub invariant-loop-place : goal.invariant-loop-place
invariant-loop-place l =
    Stands (shape_acts l.pool l.loads) l.code l.place l.walk.waiting.items l.walk.depth
