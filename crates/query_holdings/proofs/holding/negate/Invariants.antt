use Rattle.std.proofs.Common.{◌≡◌}
use Rattle.bean_lots.proofs.NegativeFacts.{negative_front}
use Rattle.query_holdings.proofs.holding.negate.Given as goal

abbrev pub invariant-loop-place : goal.invariant-loop-place
invariant-loop-place l = l.counts ≡ negative_front l.place l.initial.counts
