use Rattle.std.proofs.Common.{◌||◌, ◌∙◌, ap, sym}
use Rattle.std.specs.List.{list_any}
use Rattle.bean_interp.specs.Lacking.{clash}
use Rattle.bean_interp.specs.declared.leg.Leg.{Leg}
use Rattle.bean_interp.proofs.LackingFacts.{none_clash, number_clashes, amount_clashes}
use Rattle.bean_interp.proofs.lacks.Lacks.clashes.Goals as goal

pub returns-in-Whole : goal.returns-in-Whole
returns-in-Whole c =
    λ legs are. sym (ap (λ (l : Leg). list_any (clash l) legs) c.in-Whole.is
    ∙ none_clash c.in-Whole.field-0 legs)

pub returns-in-MissingNumber : goal.returns-in-MissingNumber
returns-in-MissingNumber c = λ legs are.
    (λ i. are.amount i || (c.contains.ensures ∙ are.currencies c.in-MissingNumber.currency) i)
    ∙ number_clashes c.in-MissingNumber.currency legs
    ∙ ap (λ (l : Leg). list_any (clash l) legs) (sym c.in-MissingNumber.is)

pub returns-in-MissingAmount : goal.returns-in-MissingAmount
returns-in-MissingAmount c = λ legs are.
    (λ i. are.amount i || are.number i) ∙ amount_clashes legs
    ∙ ap (λ (l : Leg). list_any (clash l) legs) (sym c.in-MissingAmount.is)
