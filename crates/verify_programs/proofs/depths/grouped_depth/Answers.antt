use Rattle.std.proofs.Common.{sym, subst}
use Rattle.well_shaped.specs.Ends.{HandsOver}
use Rattle.verify_programs.specs.Depths.{Lacks}
use Rattle.verify_programs.proofs.CarriedFacts.{from_last, lacks_handed}
use Rattle.verify_programs.proofs.depths.grouped_depth.Goals as goal

pub returns-in-Ok : goal.returns-in-Ok
returns-in-Ok c =
    from_last c.args.parts.now c.args.row.now.end c.args.row.now.depth c.requires.row
    c.requires.grouped c.in-Ok.to_last.keys c.in-Ok.to_last.totals
    (subst (λ vs. HandsOver c.args.parts.now.bounds.postings c.args.parts.now.code vs
    c.in-Ok.to_last.keys c.in-Ok.to_last.totals) c.values.ensures c.in-Ok.ensures)
    c.last_depth.result c.last_depth.ensures

pub returns-in-Err : goal.returns-in-Err
returns-in-Err c =
    subst (λ r. Lacks c.args.parts.now r) (sym c.at_end.ensures)
    (lacks_handed c.args.parts.now c.args.row.now.end c.args.row.now.depth c.requires.row
    c.requires.grouped _ _ c.values.ensures c.in-Err.refusal c.in-Err.ensures)
