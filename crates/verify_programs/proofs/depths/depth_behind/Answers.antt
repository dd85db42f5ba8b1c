use Rattle.std.proofs.Common.{sym, subst}
use Rattle.well_shaped.specs.Ends.{AreRow}
use Rattle.verify_programs.specs.Depths.{Lacks}
use Rattle.verify_programs.proofs.WholeFacts.{plain_amiss}
use Rattle.verify_programs.proofs.depths.depth_behind.Goals as goal

pub returns-then-not-is_row : goal.returns-then-not-is_row
returns-then-not-is_row c =
    subst (λ r. Lacks c.args.parts.now r) (sym c.fault.ensures) (
      plain_amiss c.args.parts.now c.args.row.now.end c.args.row.now.depth c.requires.row
          c.in-Plain.is
          (λ row. c.if-not-is_row.ensures
          (subst (λ vs. AreRow c.args.parts.now.output vs) (sym c.values.ensures) row)),
      tt,
    )
