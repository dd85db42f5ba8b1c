use Rattle.std.proofs.Common.{◌≡◌, IfOk, subst}
use Rattle.bql_code.specs.Kept.{core_of}
use Rattle.bql_lowering.specs.Lowered.{lowered, of_a_row}
use Rattle.bql_tree.specs.Tree.{tree_of}
use Rattle.bql_compiler.proofs.sections.lower_row.Goals as goal

pub returns : goal.returns
returns c =
    let t = tree_of c.args.expr.now in
    subst (λ b. IfOk c.lower.result (λ r. core_of r ≡ lowered b of_a_row t))
    c.of_a_row.ensures.bounds
    (subst (λ g. IfOk c.lower.result (λ r. core_of r ≡ lowered c.of_a_row.result.bounds g t))
    c.of_a_row.ensures.row c.lower.ensures)
