use Rattle.std.proofs.Common.{sym, subst}
use Rattle.bean_includes.specs.Includes.{IsIncludeOf}
use Rattle.bean_includes.proofs.IncludesFacts.{given, gives_none}
use Rattle.bean_includes.proofs.includes.include_at.Goals as goal

pub returns-in_default : goal.returns-in_default
returns-in_default c = gives_none c.args.block.now c.in_default.ensures.front

pub returns : goal.returns
returns c =
    let block = c.args.block.now in
    subst (IsIncludeOf block) (sym c.include_in.ensures)
    (given block c.in_ok-outcome.outcome c.in_ok-outcome.ensures)
