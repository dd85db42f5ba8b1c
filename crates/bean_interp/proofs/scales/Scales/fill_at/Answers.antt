use Rattle.std.proofs.Common.{◌≡◌, ◌∷◌, [], ◌∙◌, pos, ap, of_z, rules, sym, subst}
use Rattle.std.specs.Int.{w128}
use Rattle.std.specs.Prelude.{OnOk}
use Rattle.bean_interp.specs.Filling.{AreFilled, HaveNumbers, currency_at}
use Rattle.bean_interp.specs.Residual.{residual}
use Rattle.bean_interp.proofs.FillingFacts.{currency_there, gap_where, no_gap_where, nothing}
use Rattle.bean_interp.proofs.scales.Scales.fill_at.Goals as goal

pub returns-then-sum-eq0-clause-filled : goal.returns-then-sum-eq0-clause-filled
returns-then-sum-eq0-clause-filled c = λ legs d are.
    let k = currency_at legs c.args.index d in
    let there = currency_there c.args.self.now.sums legs c.args.index d are.weighed.sums in
    let sum : residual legs k ≡ c.at-sum.result.1 =
    sym (c.at-sum.ensures.sum (d, residual legs d) ∙ ap (λ e. e.1) there) in
    let zero : c.at-sum.result.1 ≡ pos 0 = search rules in
    subst (λ gs. AreFilled legs gs c.args.fills.now.items c.args.fills.now.items)
    (sym (no_gap_where legs c.args.leg k (sum ∙ zero))) (nothing legs c.args.fills.now.items)

pub returns-clause-filled : goal.returns-clause-filled
returns-clause-filled c = λ legs d are.
    let k = currency_at legs c.args.index d in
    let there = currency_there c.args.self.now.sums legs c.args.index d are.weighed.sums in
    let sum : residual legs k ≡ c.at-sum.result.1 =
    sym (c.at-sum.ensures.sum (d, residual legs d) ∙ ap (λ e. e.1) there) in
    let currency : c.at-sum.result.0.now ≡ k =
    c.at-sum.ensures.currency (d, residual legs d) ∙ ap (λ e. e.0) there in
    let gap =
    gap_where legs c.args.leg k (λ zero. c.if-sum-eq0.false (ap (of_z w128) (sym sum ∙ zero)))
    ∙ (λ j. (c.args.leg, sym currency j) ∷ []) in
    subst (λ gs. OnOk c.fill_one.result
    (AreFilled legs gs c.args.fills.now.items c.fill_one.new.fills.items)) (sym gap)
    (c.fill_one.ensures.filled legs are)

pub returns-clause-none : goal.returns-clause-none
returns-clause-none c = λ legs d are is.
    let k = currency_at legs c.args.index d in
    let there = currency_there c.args.self.now.sums legs c.args.index d are.weighed.sums in
    let sum : residual legs k ≡ c.at-sum.result.1 =
    sym (c.at-sum.ensures.sum (d, residual legs d) ∙ ap (λ e. e.1) there) in
    let currency : c.at-sum.result.0.now ≡ k =
    c.at-sum.ensures.currency (d, residual legs d) ∙ ap (λ e. e.0) there in
    let gap =
    gap_where legs c.args.leg k (λ zero. c.if-sum-eq0.false (ap (of_z w128) (sym sum ∙ zero)))
    ∙ (λ j. (c.args.leg, sym currency j) ∷ []) in
    subst (λ gs. ¬ HaveNumbers legs gs) (sym gap)
    (λ have. c.fill_one.ensures.none legs are is have.0.0 have.0.1.0)
