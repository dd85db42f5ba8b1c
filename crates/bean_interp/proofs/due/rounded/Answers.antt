use Rattle.std.proofs.Common.{◌-◌, ◌^◌, rules, subst}
use Rattle.std.proofs.lemmas.Int.{to_z-of_z}
use Rattle.std.specs.Int.{w128}
use Rattle.bean_base.specs.Decimal.{IsLedger, rounded}
use Rattle.bean_interp.proofs.DueFacts.{too_wide}
use Rattle.bean_interp.proofs.due.rounded.Goals as goal

pub returns-in-Err : goal.returns-in-Err
returns-in-Err c =
    let d = c.args.decimals in
    let back = to_z-of_z w128 c.args.count (search rules) in
    let never = subst (λ z. ¬ IsLedger (rounded z (10 ^ (16 - d))) d) back c.in-Err.ensures.1 in
    λ n is. too_wide (rounded c.args.count (10 ^ (16 - d))) d c.requires never n is
