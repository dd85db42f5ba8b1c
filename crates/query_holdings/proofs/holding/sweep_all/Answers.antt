use Rattle.std.proofs.Common.{ap, ◌∙◌}
use Rattle.bean_lots.specs.Slots.{positions}
use Rattle.bean_lots.proofs.SweepFacts as swept
use Rattle.query_holdings.proofs.holding.sweep_all.Goals as goal

pub returns : goal.returns
returns c = ap positions c.keep_full.ensures ∙ swept.same c.args.counts.now
