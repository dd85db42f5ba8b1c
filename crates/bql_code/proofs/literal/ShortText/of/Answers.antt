use Rattle.std.proofs.Common.{sym, subst}
use Rattle.query_code.specs.TextForm.{text}
use Rattle.bql_code.proofs.FormFacts.{short_fits}
use Rattle.bql_code.proofs.literal.ShortText.of.Goals as goal

pub invariant_of-result : goal.invariant_of-result
invariant_of-result c = record {
  has_form = subst (λ t. ∥ text.fits t ∥₁) (sym c.new.ensures)
      ∣ short_fits c.args.text.now c.requires c.utf8.text ∣₁;
}
