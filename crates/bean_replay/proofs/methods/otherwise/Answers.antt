use Rattle.std.proofs.Common.{◌+◌, drop, fold, arith, ap, sym, ◌∙◌}
use Rattle.std.proofs.lemmas.List.{drop_all}
use Rattle.bean_replay.specs.Method as spec
use Rattle.bean_replay.proofs.StepFacts.{folded}
use Rattle.bean_replay.proofs.methods.otherwise.Goals as goal

pub returns : goal.returns
returns c =
    let i = c.loop-line.line-index in
    let none = drop_all i c.args.lines.now c.loop-line-test.false in
    sym (ap (fold spec.behind c.loop-line.method) none) ∙ c.loop-line.invariant

pub loop-line-preserved : goal.loop-line-preserved
loop-line-preserved c =
    let lines = c.args.lines.now in
    let i = c.loop-line.line-index in
    let line = c.line-item.result in
    ap (λ m. fold spec.behind m (drop (i + 1) lines)) c.behind-method.ensures
    ∙ folded spec.behind c.loop-line.method lines i line (omega arith) c.line-item.is
    ∙ c.loop-line.invariant
