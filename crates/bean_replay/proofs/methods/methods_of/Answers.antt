use Rattle.std.proofs.Common.{◌≡◌, ◌+◌, ◌-◌, ◌∷◌, drop, length, arith, ap, sym, ◌∙◌}
use Rattle.bean_replay.specs.Method as spec
use Rattle.bean_accounts.specs.Methods.{method_in}
use Rattle.bean_replay.proofs.StepFacts.{left_at}
use Rattle.bean_replay.proofs.methods.methods_of.Goals as goal

pub loop-taken-preserved : goal.loop-taken-preserved
loop-taken-preserved c = λ a.
    let m = c.args.otherwise in
    let ds = c.args.directives.now in
    let n = length ds in
    let i = c.loop-taken.taken in
    let d = c.index-directives-count.result in
    let here : n - (i + 1) ≡ n - 1 - i = omega arith in
    let behind : n - 1 - i + 1 ≡ n - i = omega arith in
    let at : drop (n - (i + 1)) ds ≡ d ∷ drop (n - i) ds =
    ap (λ k. drop k ds) here
    ∙ left_at ds (n - 1 - i) d (omega arith) c.index-directives-count.is
    ∙ ap (λ k. d ∷ drop k ds) behind in
    c.in_ok-note_open.ensures a
    ∙ ap (λ kind. spec.method_by m kind a (method_in c.loop-taken.methods a)) c.kind_of.ensures
    ∙ ap (spec.method_by m d.item.kind a) (c.loop-taken.invariant a)
    ∙ sym (ap (λ l. spec.method_of m l a) at)
