use Rattle.std.proofs.Common.{ap, sym, ◌∙◌, ◌≡◌, true}
use Rattle.std.proofs.lemmas.List.Folds.{list_all-map}
use Rattle.std.specs.List.{list_all}
use Rattle.bean_interp.specs.Filling.{all_currencies}
use Rattle.bean_interp.specs.Residual.{residual}
use Rattle.bean_interp.specs.Sums.{is_zero}
use Rattle.bean_interp.proofs.BalanceFacts.{zero_is_even}
use Rattle.bean_interp.proofs.scales.Scales.are_zero.Goals as goal

pub returns-clause-exact : goal.returns-clause-exact
returns-clause-exact c = λ legs on.
    c.are_zero.ensures
    ∙ ap (list_all is_zero) on.sums
    ∙ list_all-map is_zero (λ c. (c, residual legs c)) (all_currencies legs)

pub returns-clause-balanced : goal.returns-clause-balanced
returns-clause-balanced c = λ yes legs on.
    let zero : list_all is_zero c.args.self.now.sums ≡ true =
    sym c.are_zero.ensures ∙ yes in
    zero_is_even legs (all_currencies legs) (ap (list_all is_zero) (sym on.sums) ∙ zero)
