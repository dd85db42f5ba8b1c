use Rattle.std.proofs.Common.{ap, ◌∙◌}
use Rattle.std.specs.Map.{lookup}
use Rattle.bean_lots.specs.Lot.{same_key}
use Rattle.bean_lots.specs.Slots.{positions}
use Rattle.bean_lots.proofs.SlotFacts.{gone_at, hole_out, out_at}
use Rattle.query_holdings.proofs.holding.remove.Goals as goal

pub returns-clause-same : goal.returns-clause-same
returns-clause-same c =
    let es = c.args.counts.now in
    let k = c.args.key.now in
    ap positions (c.remove.ensures.entries ∙ out_at es c.args.place k c.requires.at)
    ∙ hole_out es k c.requires.hole

pub returns-clause-absent : goal.returns-clause-absent
returns-clause-absent c =
    let es = c.args.counts.now in
    let k = c.args.key.now in
    ap (lookup (same_key k)) (c.remove.ensures.entries ∙ out_at es c.args.place k c.requires.at)
    ∙ gone_at es k c.remove.ensures.unique
