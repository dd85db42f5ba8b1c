use Rattle.std.proofs.Common.{sym, ◌∙◌}
use Rattle.std.proofs.lemmas.Result.{on_ok_weaker}
use Rattle.query_runs.specs.Stands.{kept_in}
use Rattle.query_runs.proofs.Ending.{last_next}
use Rattle.query_runs.proofs.ends.end_last.Goals as goal

pub start_group-requires : goal.start_group-requires
start_group-requires c = λ fault.
    c.requires.fine
    (last_next c.args.input.now.parts.now (kept_in c.args.run.now) (kept_in c.keep_row.new.run)
    c.args.run.now.group c.keep_row.new.run.group c.args.run.now.frame.stack.values
    c.requires.there c.requires.fine c.in_ok-keep_row.ensures.kept c.keep_row.ensures.group
    ∙ fault)

pub returns-clause-stand : goal.returns-clause-stand
returns-clause-stand c =
    on_ok_weaker c.start_group.result (λ stand. stand
    ∙ sym (last_next c.args.input.now.parts.now (kept_in c.args.run.now)
    (kept_in c.keep_row.new.run) c.args.run.now.group c.keep_row.new.run.group
    c.args.run.now.frame.stack.values c.requires.there c.requires.fine
    c.in_ok-keep_row.ensures.kept c.keep_row.ensures.group)) c.start_group.ensures.stand
