use Rattle.std.proofs.Common.{◌≡◌, ◌+◌, ◌&&◌, [], ◌∷◌, ◌∙◌, ap, arith, false, length, rules, suc}
use Rattle.std.proofs.Common.{sym, take, true}
use Rattle.std.proofs.Math.Seq.{take-suc}
use Rattle.std.proofs.lemmas.List.{length-map}
use Rattle.std.proofs.lemmas.List.Folds.{list_all-append, list_all_at}
use Rattle.std.specs.List.{list_all}
use Rattle.bean_interp.specs.Balance.{is_even}
use Rattle.bean_interp.specs.Filling.{all_currencies, currency_at}
use Rattle.bean_interp.specs.Residual.{residual}
use Rattle.bean_interp.proofs.scales.Scales.are_even.Goals as goal

pub returns-then-not-is_even_at : goal.returns-then-not-is_even_at
returns-then-not-is_even_at c = λ legs are.
    let cs = all_currencies legs in
    let few : length c.args.self.now.sums ≡ length cs =
    ap length are.weighed.sums ∙ length-map cs (λ c. (c, residual legs c)) in
    let no : c.is_even_at.result ≡ false = search rules in
    sym (list_all_at (is_even legs) cs c.loop-index.index [] (omega arith)
    (sym (c.is_even_at.ensures legs [] are) ∙ no))

pub loop-index-preserved : goal.loop-index-preserved
loop-index-preserved c = λ legs are.
    let cs = all_currencies legs in
    let i = c.loop-index.index in
    let few : length c.args.self.now.sums ≡ length cs =
    ap length are.weighed.sums ∙ length-map cs (λ c. (c, residual legs c)) in
    let succ : i + 1 ≡ suc i = omega arith in
    let yes : c.is_even_at.result ≡ true = search rules in
    let here = sym (c.is_even_at.ensures legs [] are) ∙ yes in
    ap (λ n. list_all (is_even legs) (take n cs)) succ
    ∙ ap (list_all (is_even legs)) (take-suc cs i [] (omega arith))
    ∙ list_all-append (is_even legs) (take i cs) (currency_at legs i [] ∷ [])
    ∙ (λ k. c.loop-index.invariant legs are k && (here k && true))
