use Rattle.std.proofs.Common.{◌≡◌, OnOk, subst}
use Rattle.indexmap.proofs.MapLemmas.{OnOk-map}
use Rattle.bean_interp.proofs.WeightFacts.{fits_by_units, narrow_by_units, with_units}
use Rattle.bean_interp.proofs.sums.Sums.add_units.Goals as goal

pub returns-clause-added : goal.returns-clause-added
returns-clause-added c = λ w of.
    subst (λ es. OnOk c.add.result (c.add.new.self ≡ es))
    (with_units c.args.self.now c.args.units.now w c.of_units.result of c.of_units.ensures.count
    c.of_units.ensures.currency)
    c.add.ensures.added

pub returns-clause-fits : goal.returns-clause-fits
returns-clause-fits c = λ w of.
    OnOk-map c.add.result _ _
    (fits_by_units c.args.self.now c.args.units.now w c.of_units.result of
    c.of_units.ensures.count c.of_units.ensures.currency)
    c.add.ensures.narrow

pub returns-clause-wide : goal.returns-clause-wide
returns-clause-wide c = λ is w of fits.
    c.add.ensures.wide is
    (narrow_by_units c.args.self.now c.args.units.now w c.of_units.result of
    c.of_units.ensures.count c.of_units.ensures.currency fits)
