use Rattle.std.proofs.Common.{Err, sym, subst}
use Rattle.verify_programs.specs.Passing.{IsLeast, Passes}
use Rattle.verify_programs.specs.Depths.{Lacks}
use Rattle.well_shaped.specs.Ends.{AreRow}
use Rattle.verify_programs.proofs.CarriedFacts.{carry}
use Rattle.verify_programs.proofs.CarriedFacts.{lacks_last, last_cause}
use Rattle.verify_programs.proofs.WholeFacts.{last_amiss, last_found}
use Rattle.verify_programs.proofs.depths.last_depth.Goals as goal

pub returns-then-not-is_row : goal.returns-then-not-is_row
returns-then-not-is_row c =
    let least = carry (λ pool l code. IsLeast pool l code c.in-Ok.passed.end c.in-Ok.passed.depth)
    c.as_slice.ensures c.of_last-loads.ensures c.as_slice-code.ensures c.in-Ok.ensures in
    subst (λ r. Lacks c.args.parts.now r) (sym c.fault.ensures) (
      last_amiss c.args.parts.now _ _ c.requires.row c.requires.grouped _ _ c.requires.handed
          c.in-Ok.passed.end c.in-Ok.passed.depth least
          (λ row. c.if-not-is_row.ensures
          (subst (λ vs. AreRow c.args.parts.now.output vs) (sym c.values.ensures) row)),
      last_cause c.args.parts.now _ _ _ c.requires.handed _ _ tt,
    )

pub returns-in-Ok : goal.returns-in-Ok
returns-in-Ok c =
    let least = carry (λ pool l code. IsLeast pool l code c.in-Ok.passed.end c.in-Ok.passed.depth)
    c.as_slice.ensures c.of_last-loads.ensures c.as_slice-code.ensures c.in-Ok.ensures in
    last_found c.args.parts.now _ _ c.requires.row c.requires.grouped _ _ c.requires.handed
    c.in-Ok.passed.end c.in-Ok.passed.depth least
    (subst (λ vs. AreRow c.args.parts.now.output vs) c.values.ensures c.if-not-is_row.ensures)

pub returns : goal.returns
returns c =
    subst (λ r. Lacks c.args.parts.now r) (sym c.in_last.ensures)
    (lacks_last c.args.parts.now _ _ c.requires.row c.requires.grouped _ _ c.requires.handed
    c.in-Err.refusal
    (carry (λ pool l code. Passes pool l code (Err c.in-Err.refusal)) c.as_slice.ensures
    c.of_last-loads.ensures c.as_slice-code.ensures c.in-Err.ensures))
