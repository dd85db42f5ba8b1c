use Rattle.std.proofs.Common.{[], map, Some, sym, ap, ◌∙◌, subst}
use Rattle.clap.specs.Walk.{Text}
use Rattle.stores.proofs.GaveFacts.{gave_none}
use Rattle.bq.specs.Commands.{due_to}
use Rattle.requests.specs.Compile.{words_of}
use Rattle.bq.specs.Compile.{compile}
use Rattle.bq.specs.Due.{ComesTo}
use Rattle.bq.specs.Query.{query}
use Rattle.bq.specs.RunFile as run_file
use Rattle.bq.specs.Runs.{Finds}
use Rattle.bq.specs.Upgrade.{upgrade}
use Rattle.requests.specs.declared.words.Request.TheVariants as request
use Rattle.requests.proofs.BoundsFacts.{bounds_asked, steps_asked}
use Rattle.bq.proofs.Outcomes.{at_once_found, converted, found_for, unasked}
use Rattle.bq.proofs.commands.find.Goals as goal

pub returns-in_err-request : goal.returns-in_err-request
returns-in_err-request g c =
    let words = map (λ w. w.now) c.args.words.now in
    let r = c.in_err-request.field-0.0 in (
      [],
      gave_none g.S.Source c.args.store.now,
      subst (ComesTo (due_to words []))
          (sym (converted c.from_residual.result r c.from_residual.ensures.1))
          (unasked words r c.in_err-request.ensures),
    )

pub answer-requires-in-Compile : goal.answer-requires-in-Compile
answer-requires-in-Compile g c =
    let w = c.in-Compile in
    bounds_asked (map (λ w. w.now) c.args.words.now) w.text w.file w.bounds
    (c.in_ok-request.ensures ∙ ap Some w.is)

pub answer-requires-in-Batch : goal.answer-requires-in-Batch
answer-requires-in-Batch g c =
    let w = c.in-Batch in
    steps_asked (map (λ w. w.now) c.args.words.now) w.steps w.ledger w.files
    (c.in_ok-request.ensures ∙ ap Some w.is)

pub returns-in-Upgrade : goal.returns-in-Upgrade
returns-in-Upgrade g c =
    let s = g.S.Source in
    let a = c.args.store.now in
    let b = c.answer-in-Upgrade.new.store in
    let w = c.in-Upgrade in
    found_for s a b (map (λ w. w.now) c.args.words.now) (request.Upgrade w.old w.new)
    c.answer-in-Upgrade.result (c.in_ok-request.ensures ∙ ap Some w.is)
    (subst (λ (n : Text). Finds s a b (upgrade.due (n, w.new)) c.answer-in-Upgrade.result)
    c.text-in-Upgrade.ensures c.answer-in-Upgrade.ensures)

pub returns-in-Run : goal.returns-in-Run
returns-in-Run g c =
    let s = g.S.Source in
    let a = c.args.store.now in
    let b = c.answer-in-Run.new.store in
    let w = c.in-Run in
    let result = c.answer-in-Run.result in
    found_for s a b (map (λ w. w.now) c.args.words.now) (request.Run w.file w.ledger) result
    (c.in_ok-request.ensures ∙ ap Some w.is)
    (subst (λ (n : Text). Finds s a b (run_file.run.due (n, w.ledger)) result)
    c.text-in-Run.ensures
    (subst (λ (l : Text). Finds s a b (run_file.run.due (c.text-in-Run.result.now, l)) result)
    c.text-in-Run-2.ensures c.answer-in-Run.ensures))

pub returns-in-Query : goal.returns-in-Query
returns-in-Query g c =
    let s = g.S.Source in
    let a = c.args.store.now in
    let b = c.answer-in-Query.new.store in
    let w = c.in-Query in
    let result = c.answer-in-Query.result in
    found_for s a b (map (λ w. w.now) c.args.words.now) (request.Query w.ledger w.text) result
    (c.in_ok-request.ensures ∙ ap Some w.is)
    (subst (λ (l : Text). Finds s a b (query.due (l, w.text)) result) c.text-in-Query.ensures
    (subst (λ (t : Text). Finds s a b (query.due (c.text-in-Query.result.now, t)) result)
    c.text-in-Query-2.ensures c.answer-in-Query.ensures))

pub returns-in-Compile : goal.returns-in-Compile
returns-in-Compile g c =
    let s = g.S.Source in
    let a = c.args.store.now in
    let w = c.in-Compile in
    let result = c.answer-in-Compile.result in
    found_for s a a (map (λ w. w.now) c.args.words.now) (request.Compile w.text w.file w.bounds)
    result (c.in_ok-request.ensures ∙ ap Some w.is)
    (at_once_found s a (compile.due (words_of w.text w.file w.bounds)) result
    (subst (λ (t : Text). ComesTo (compile.due (words_of t w.file w.bounds) []) result)
    c.text-in-Compile.ensures c.answer-in-Compile.ensures))
