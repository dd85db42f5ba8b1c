use Rattle.std.proofs.Common.{ap, sym, subst, ◌≤◌, ◌∙◌, drop, length, take}
use Rattle.std.proofs.lemmas.Result.{on_ok_weaker}
use Rattle.plain_machine.proofs.ReadingFacts.{put_same}
use Rattle.plain_machine.specs.Gathering.{put, running_values}
use Rattle.plain_machine.specs.Reading.{reads_running}
use Rattle.query_runs.specs.Stands.{kept_in}
use Rattle.query_runs.proofs.Ending.{gathered_is, keys_few, put_there}
use Rattle.query_runs.proofs.ends.gather.Goals as goal

pub split_at-requires : goal.split_at-requires
split_at-requires c =
    subst (λ values. c.args.input.now.parts.now.code.keys ≤ length values) (sym c.as_slice.ensures)
    (keys_few c.args.input.now.parts.now (kept_in c.args.run.now)
    c.args.run.now.frame.stack.values c.requires)

pub put-requires : goal.put-requires
put-requires c = λ none.
    let p = c.args.input.now.parts.now in
    put_there p (kept_in c.args.run.now) c.args.run.now.frame.stack.values
    c.split_at.result.0.now c.split_at.result.1.now c.requires
    (c.split_at.ensures.front ∙ ap (take p.code.keys) c.as_slice.ensures)
    (c.split_at.ensures.back ∙ ap (drop p.code.keys) c.as_slice.ensures)
    (sym (put_same (reads_running p) p.code.aggregates c.args.run.now.groups
    c.split_at.result.0.now c.split_at.result.1.now)
    ∙ ap (λ a. put (running_values a) c.args.run.now.groups c.split_at.result.0.now
    c.split_at.result.1.now) (sym c.as_slice-2.ensures) ∙ none)

pub returns-clause-kept : goal.returns-clause-kept
returns-clause-kept c =
    let p = c.args.input.now.parts.now in
    on_ok_weaker c.put.result (λ is.
    gathered_is p (kept_in c.args.run.now) c.args.run.now.frame.stack.values
    c.split_at.result.0.now c.split_at.result.1.now c.requires
    (c.split_at.ensures.front ∙ ap (take p.code.keys) c.as_slice.ensures)
    (c.split_at.ensures.back ∙ ap (drop p.code.keys) c.as_slice.ensures) c.put.new.self
    (sym (put_same (reads_running p) p.code.aggregates c.args.run.now.groups
    c.split_at.result.0.now c.split_at.result.1.now)
    ∙ ap (λ a. put (running_values a) c.args.run.now.groups c.split_at.result.0.now
    c.split_at.result.1.now) (sym c.as_slice-2.ensures) ∙ is)) c.put.ensures
