use Rattle.std.proofs.Common.{◌≡◌, ◌++◌, ◌∙◌, List, ℕ, ap, sym, subst}
use Rattle.std.proofs.lemmas.List.{append-nil}
use Rattle.query_code.specs.TextForm.{AreTexts, AreTwoParts}
use Rattle.query_code.proofs.TextListSearch.{front_alone}
use Rattle.query_code.proofs.text_list.TextList.lent.Goals as goal

pub invariant_of-result : goal.invariant_of-result
invariant_of-result c =
    let written = c.args.written.now in
    let all : written ++ c.new.result.items ≡ written =
    ap (λ (bs : List ℕ). written ++ bs) c.new.ensures.items ∙ append-nil written in (
      subst (λ bs. ∥ AreTexts c.args.len bs ∥₁) (sym all) c.requires,
      (
        subst (λ bs. ∥ AreTwoParts c.args.len written bs ∥₁) (sym c.new.ensures.items)
            (front_alone c.args.len written c.requires),
        tt,
      ),
    )
