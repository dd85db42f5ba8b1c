use Rattle.std.proofs.Common.{ap, ◌∙◌}
use Rattle.std.specs.FinMap.{insert}
use Rattle.posting_table.proofs.DecimalsFacts.{updated}
use Rattle.posting_table.proofs.display.Display.set.Goals as goal

pub returns-clause-set : goal.returns-clause-set
returns-clause-set c =
    updated c.self.inside.places.entries c.insert.new.self.entries c.args.currency c.args.places
    c.in_ok-insert.ensures.updates.0
    ∙ ap (λ m. insert m c.args.currency c.args.places) c.self.view_is
