use Rattle.bean_parser.proofs.BlockFacts.{some_lines}
use Rattle.bean_parser.proofs.block.undated_block.Goals as goal
use Rattle.std.proofs.Common.{sym, ◌∙◌}

pub returns-in_err-kind : goal.returns-in_err-kind
returns-in_err-kind c = rw c.from_residual.ensures (λ k is empty. c.in_err-kind.ensures k is)

pub returns-then-not-is_empty : goal.returns-then-not-is_empty
returns-then-not-is_empty c =
    λ k is empty. some_lines _ (sym c.is_empty.ensures ∙ c.if-not-is_empty.true) empty
