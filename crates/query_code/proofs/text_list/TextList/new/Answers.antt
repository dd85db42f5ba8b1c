use Rattle.std.proofs.Common.{◌≡◌, [], sym, subst}
use Rattle.query_code.specs.TextForm.{texts_in, AreTexts, AreTwoParts}
use Rattle.query_code.proofs.TextListFacts.{none_are_texts, none_in}
use Rattle.query_code.proofs.TextListSearch.{none_in_parts}
use Rattle.query_code.proofs.text_list.TextList.new.Goals as goal

pub invariant_of-result : goal.invariant_of-result
invariant_of-result c = (
  subst (λ bytes. ∥ AreTexts 0 bytes ∥₁) (sym c.new.ensures.items) none_are_texts,
  (subst (λ bytes. ∥ AreTwoParts 0 [] bytes ∥₁) (sym c.new.ensures.items) none_in_parts, tt),
)

pub returns : goal.returns
returns c = subst (λ bytes. texts_in 0 bytes ≡ []) (sym c.new.ensures.items) none_in
