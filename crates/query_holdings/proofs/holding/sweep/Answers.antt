use Rattle.std.proofs.Common.{ap, ◌∙◌}
use Rattle.std.specs.Map.{lookup}
use Rattle.bean_lots.specs.Lot.{same_key}
use Rattle.bean_lots.specs.Slots.{positions}
use Rattle.bean_lots.proofs.SweepFacts as swept
use Rattle.query_holdings.proofs.holding.sweep.Goals as goal

pub returns-then-holes-len-clause-same : goal.returns-then-holes-len-clause-same
returns-then-holes-len-clause-same c =
    ap positions c.keep_full.ensures ∙ swept.same c.args.counts.now

pub returns-then-holes-len-clause-absent : goal.returns-then-holes-len-clause-absent
returns-then-holes-len-clause-absent c = λ k h.
    ap (lookup (same_key k)) c.keep_full.ensures
    ∙ swept.absent (same_key k) c.args.counts.now h
