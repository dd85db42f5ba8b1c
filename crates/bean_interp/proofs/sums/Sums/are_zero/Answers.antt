use Rattle.std.proofs.Common.{◌≡◌, ◌≢◌, ◌+◌, ◌&&◌, [], ◌∷◌, ◌∙◌, ap, arith, get_or, of_z, pos}
use Rattle.std.proofs.Common.{rules, suc, sym, take, true}
use Rattle.std.proofs.Math.Seq.{take-suc}
use Rattle.std.proofs.lemmas.List.Folds.{list_all-append, list_all_at}
use Rattle.std.specs.Int.{w128}
use Rattle.std.specs.List.{list_all}
use Rattle.std.specs.Ordering.{int_eq}
use Rattle.bean_interp.specs.Residual.{Weighed}
use Rattle.bean_interp.specs.Sums.{is_zero}
use Rattle.bean_interp.proofs.FillingFacts.{unequal}
use Rattle.bean_interp.proofs.sums.Sums.are_zero.Goals as goal

none : Weighed
none = ([], pos 0)

pub returns-then-at-ne0 : goal.returns-then-at-ne0
returns-then-at-ne0 c =
    let some : c.at.result.1 ≢ pos 0 = λ zero. c.if-at-ne0.true (ap (of_z w128) zero) in
    let here =
    ap (λ z. int_eq z (pos 0)) (sym (c.at.ensures.sum none)) ∙ unequal c.at.result.1 some in
    sym (list_all_at is_zero c.args.self.now c.loop-index.index none (omega arith) here)

pub loop-index-preserved : goal.loop-index-preserved
loop-index-preserved c =
    let es = c.args.self.now in
    let i = c.loop-index.index in
    let succ : i + 1 ≡ suc i = omega arith in
    let zero : c.at.result.1 ≡ pos 0 = search rules in
    let here = ap (λ z. int_eq z (pos 0)) (sym (c.at.ensures.sum none) ∙ zero) in
    ap (λ n. list_all is_zero (take n es)) succ
    ∙ ap (list_all is_zero) (take-suc es i none (omega arith))
    ∙ list_all-append is_zero (take i es) (get_or es i none ∷ [])
    ∙ (λ k. c.loop-index.invariant k && (here k && true))
