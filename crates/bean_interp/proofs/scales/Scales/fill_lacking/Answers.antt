use Rattle.std.proofs.Common.{◌≡◌, [], ◌∙◌, ap, arith, length, sym, subst}
use Rattle.std.proofs.lemmas.List.{length-map}
use Rattle.bean_interp.specs.Filling.{AreFilled, all_currencies}
use Rattle.bean_interp.specs.Residual.{residual}
use Rattle.bean_interp.proofs.FillingFacts.{gaps_next, joined, without_number}
use Rattle.bean_interp.proofs.scales.Scales.fill_lacking.Goals as goal

pub loop-index-preserved : goal.loop-index-preserved
loop-index-preserved c = λ legs are.
    let cs = all_currencies legs in
    let i = c.loop-index.index in
    let few : length c.args.self.now.sums ≡ length cs =
    ap length are.weighed.sums ∙ length-map cs (λ c. (c, residual legs c)) in
    subst (λ gs. AreFilled legs gs c.args.fills.now.items c.fill_at.new.fills.items)
    (sym (gaps_next legs c.args.leg cs i [] (omega arith)))
    (joined legs _ _ c.args.fills.now.items c.loop-index.fills.items c.fill_at.new.fills.items
    (c.loop-index.invariant legs are) (c.in-Ok.ensures.filled legs [] are))

pub returns-in-Err-clause-none : goal.returns-in-Err-clause-none
returns-in-Err-clause-none c = λ legs are is.
    let cs = all_currencies legs in
    let few : length c.args.self.now.sums ≡ length cs =
    ap length are.weighed.sums ∙ length-map cs (λ c. (c, residual legs c)) in
    without_number legs c.args.leg cs c.loop-index.index [] (omega arith)
    (c.in-Err.ensures.none legs [] are is)
