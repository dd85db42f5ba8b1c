use Rattle.std.proofs.Common.{max, sym, ap, ◌∙◌, subst}
use Rattle.well_shaped.specs.Program.{IsDepth}
use Rattle.verify_programs.proofs.WholeFacts.{whole}
use Rattle.verify_programs.proofs.depths.depth_of.Goals as goal

pub returns-in-Ok-depth_behind : goal.returns-in-Ok-depth_behind
returns-in-Ok-depth_behind c =
    let row = c.in-Ok-row_passed.row in
    let behind = c.in-Ok-depth_behind.behind in
    subst (λ d. IsDepth c.args.parts.now d)
    (sym (c.max-in-Ok-depth_behind.ensures ∙ ap (λ d. max d behind) c.max.ensures))
    (whole c.args.parts.now row.end row.depth c.in-Ok-row_passed.ensures c.requires.bounds
    c.in-Ok.depth behind c.in-Ok.ensures c.in-Ok-depth_behind.ensures)
