use Rattle.std.proofs.Common.{sym, ap, ◌∙◌}
use Rattle.std.specs.FinMap.{get}
use Rattle.posting_table.proofs.DecimalsFacts.{placed_is}
use Rattle.posting_table.proofs.display.Display.places_at.Goals as goal

pub returns-in-Some : goal.returns-in-Some
returns-in-Some c =
    placed_is c.args.currency.now c.self.inside.places.entries c.in-Some.found.now c.in-Some.places.now
    c.in-Some.ensures.value (sym c.eq.ensures ∙ c.if-eq.true)
    ∙ ap (λ m. get m c.args.currency.now) c.self.view_is
