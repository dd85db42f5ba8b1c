use Rattle.bql_code.proofs.FormFacts.{numbers_fit}
use Rattle.bql_code.proofs.entry.Entry.numbers.Goals as goal

pub invariant_of-result : goal.invariant_of-result
invariant_of-result c = record {
  has_form =
      ∣ numbers_fit c.args.numbers c.requires.some c.requires.few c.requires.narrow c.requires.held ∣₁;
}
