use Rattle.std.proofs.Common.{rules, FitsSigned, ◌∙◌, ap}
use Rattle.std.proofs.lemmas.Int.{to_z-of_z}
use Rattle.std.specs.Int.{w64}
use Rattle.bean_postings.proofs.WrittenPostingFacts.{kept_amount}
use Rattle.bean_postings.specs.declared.posting.Units.TheVariants as units
use Rattle.bean_postings.proofs.written_posting.WrittenPosting.units.Goals as goal

pub returns-in-Amount : goal.returns-in-Amount
returns-in-Amount c =
    let f : FitsSigned w64 c.in-Amount.count = search rules in
    ap (λ currency. units.Amount (record { number = c.number_of.result; currency = currency }))
    c.lend.ensures
    ∙ kept_amount _ c.self.inside.in_range c.self.inside.small _ _ _ _ _ c.in-Amount.is
    (c.number_of.ensures.count ∙ to_z-of_z w64 c.in-Amount.count f) c.number_of.ensures.places
    ∙ ap (λ p. p.units) c.self.view_is
