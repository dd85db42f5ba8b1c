use Rattle.std.proofs.Common.{◌≡◌, FitsSigned, ℤ, pos, ◌*ℤ◌, ◌^◌, ◌∙◌, arith, rules, sym, subst}
use Rattle.std.proofs.lemmas.Int.{to_z-of_z}
use Rattle.std.specs.Int.{w128}
use Rattle.bean_base.specs.Decimal.{IsLedger}
use Rattle.bean_interp.proofs.DueFacts.{not_in_8, too_wide}
use Rattle.bean_interp.proofs.due.exact.Goals as goal

pub returns-in_default : goal.returns-in_default
returns-in_default c =
    let back = to_z-of_z w128 c.args.count (search rules) in
    not_in_8 c.args.count (subst (λ k. (z : ℤ)
    → ¬ (z *ℤ pos (10 ^ 8) ≡ k)) back c.in_default.ensures)

pub returns-in-Err : goal.returns-in-Err
returns-in-Err c =
    let z = c.in-Some.count in
    let fits : FitsSigned w128 z = search rules in
    let back = to_z-of_z w128 c.args.count (search rules) in
    let never = subst (λ k. ¬ IsLedger k 8) (to_z-of_z w128 z fits) c.in-Err.ensures.1 in
    λ n is. too_wide z 8 (omega arith) never n (is ∙ sym (c.in-Some.ensures ∙ back))
