use Rattle.std.proofs.Common.{Err, sym, subst}
use Rattle.verify_programs.specs.Passing.{Passes}
use Rattle.verify_programs.specs.Depths.{Lacks}
use Rattle.verify_programs.proofs.CarriedFacts.{carry, lacks_row}
use Rattle.verify_programs.proofs.depths.row_passed.Goals as goal

pub returns : goal.returns
returns c =
    subst (λ r. Lacks c.args.parts.now r) (sym c.in_row.ensures)
    (lacks_row c.args.parts.now c.in-Err.refusal
    (carry (λ pool l code. Passes pool l code (Err c.in-Err.refusal)) c.as_slice.ensures
    c.of_row-loads.ensures c.as_slice-code.ensures c.in-Err.ensures))
