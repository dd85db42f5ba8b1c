use Rattle.std.proofs.Common.{rules, FitsSigned, ◌∙◌}
use Rattle.std.proofs.lemmas.Int.{to_z-of_z}
use Rattle.std.specs.Int.{w64}
use Rattle.bean_postings.proofs.WrittenPostingFacts.{kept_amount}
use Rattle.bean_postings.proofs.written_posting.Rest.of.Goals as goal

pub returns-in-Amount-clause-units : goal.returns-in-Amount-clause-units
returns-in-Amount-clause-units c = λ in_range small.
    let f : FitsSigned w64 c.in-Amount.count = search rules in
    kept_amount _ in_range small _ _ _ _ _ c.in-Amount.is
    (c.number_of.ensures.count ∙ to_z-of_z w64 c.in-Amount.count f) c.number_of.ensures.places
