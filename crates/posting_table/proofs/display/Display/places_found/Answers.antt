use Rattle.std.proofs.Common.{sym, ap, ◌∙◌}
use Rattle.std.specs.FinMap.{get}
use Rattle.posting_table.proofs.DecimalsFacts.{got, none_found}
use Rattle.posting_table.proofs.display.Display.places_found.Goals as goal

pub returns-in_err-place : goal.returns-in_err-place
returns-in_err-place c =
    c.from_residual.ensures
    ∙ none_found _ c.in_err-place.ensures.found
    ∙ sym (got c.args.currency.now c.self.inside.places.entries)
    ∙ ap (λ m. get m c.args.currency.now) c.self.view_is

pub returns : goal.returns
returns c =
    sym c.index.ensures ∙ c.in_ok-place.ensures.value
    ∙ sym (got c.args.currency.now c.self.inside.places.entries)
    ∙ ap (λ m. get m c.args.currency.now) c.self.view_is
