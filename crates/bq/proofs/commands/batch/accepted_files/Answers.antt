use Rattle.std.proofs.Common.{◌≡◌, ◌+◌, arith, drop, [], ◌∷◌, Ok, Err, sym, ◌∙◌, subst}
use Rattle.std.proofs.lemmas.Grind.{common_steps}
use Rattle.bq.specs.Accepted.{AcceptsFile, AcceptsFiles}
use Rattle.endings.specs.declared.refusal.Refusal.TheVariants.{OutOfMemory}
use Rattle.bq.proofs.AcceptedFacts.{SoFar, all_come, begins, ends, goes_on, lacks}
use Rattle.bq.proofs.Outcomes.{converted}
use Rattle.bq.proofs.commands.batch.accepted_files.Goals as goal

pub loop-name-init : goal.loop-name-init
loop-name-init g c =
    let s = g.S.Source in
    let a = c.args.store.now in
    let names = c.args.names.now in
    subst (SoFar s a a names names) (sym (c.new-files.ensures ∙ c.new.ensures.items)) (begins s a names)

pub returns-in_err-file : goal.returns-in_err-file
returns-in_err-file g c =
    let s = g.S.Source in
    let a = c.args.store.now in
    let b = c.loop-name.store in
    let names = c.args.names.now in
    let left = drop (c.loop-name.name-index + 1) names in
    let next : drop c.loop-name.name-index names ≡ c.name-item.result ∷ left =
    grind (arith, common_steps) in
    let so_far = subst (λ ns. SoFar s a b names ns c.loop-name.files) next c.loop-name.invariant in
    let r = c.in_err-file.field-0.0 in
    subst (AcceptsFiles s a c.accepted_file.new.store names)
    (sym (converted c.from_residual.result r c.from_residual.ensures.1))
    (ends s a b c.accepted_file.new.store names left c.name-item.result c.loop-name.files r so_far
    (subst (λ n. AcceptsFile s b c.accepted_file.new.store n (Err r)) c.text.ensures
    c.in_err-file.ensures))

pub returns-in_err-push : goal.returns-in_err-push
returns-in_err-push g c =
    let s = g.S.Source in
    let a = c.args.store.now in
    let b = c.loop-name.store in
    let names = c.args.names.now in
    let left = drop (c.loop-name.name-index + 1) names in
    let next : drop c.loop-name.name-index names ≡ c.name-item.result ∷ left =
    grind (arith, common_steps) in
    let so_far = subst (λ ns. SoFar s a b names ns c.loop-name.files) next c.loop-name.invariant in
    let file = c.in_ok-file.file in
    let step = c.from_residual-in_err-push in
    subst (AcceptsFiles s a c.accepted_file.new.store names)
    (sym (converted step.result OutOfMemory step.ensures.1))
    (lacks s a b c.accepted_file.new.store names left c.name-item.result c.loop-name.files file
    so_far
    (subst (λ n. AcceptsFile s b c.accepted_file.new.store n (Ok file)) c.text.ensures
    c.in_ok-file.ensures))

pub loop-name-preserved : goal.loop-name-preserved
loop-name-preserved g c =
    let s = g.S.Source in
    let a = c.args.store.now in
    let b = c.loop-name.store in
    let names = c.args.names.now in
    let left = drop (c.loop-name.name-index + 1) names in
    let next : drop c.loop-name.name-index names ≡ c.name-item.result ∷ left =
    grind (arith, common_steps) in
    let so_far = subst (λ ns. SoFar s a b names ns c.loop-name.files) next c.loop-name.invariant in
    let file = c.in_ok-file.file in
    subst (SoFar s a c.accepted_file.new.store names left) (sym c.in_ok-push.ensures)
    (goes_on s a b c.accepted_file.new.store names left c.name-item.result c.loop-name.files file
    so_far
    (subst (λ n. AcceptsFile s b c.accepted_file.new.store n (Ok file)) c.text.ensures
    c.in_ok-file.ensures))

pub returns : goal.returns
returns g c =
    let s = g.S.Source in
    let a = c.args.store.now in
    let names = c.args.names.now in
    let none : drop c.loop-name.name-index names ≡ [] = grind (arith, common_steps) in
    all_come s a c.loop-name.store names c.loop-name.files
    (subst (λ ns. SoFar s a c.loop-name.store names ns c.loop-name.files) none
    c.loop-name.invariant)
