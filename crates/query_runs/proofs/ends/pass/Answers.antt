use Rattle.std.proofs.Common.{◌∙◌, sym}
use Rattle.std.proofs.lemmas.Result.{on_ok_weaker}
use Rattle.query_runs.specs.Stands.{kept_in, rows_in}
use Rattle.query_runs.proofs.Ending.{passes_on, running_there}
use Rattle.query_runs.proofs.ends.pass.Goals as goal

pub take_position-requires-clause-fine : goal.take_position-requires-clause-fine
take_position-requires-clause-fine c =
    running_there c.args.input.now.parts.now (rows_in c.args.input.now) c.args.run.now.row
    (kept_in c.args.run.now) c.requires.there c.requires.fine

pub begin_row-requires-clause-fine : goal.begin_row-requires-clause-fine
begin_row-requires-clause-fine c = λ fault.
    c.requires.fine
    (passes_on c.args.input.now.parts.now (rows_in c.args.input.now) c.args.run.now.row
    (kept_in c.args.run.now) c.requires.there c.take_position.new.run.running
    c.take_position.new.run.row (kept_in c.take_position.new.run)
    c.in_ok-take_position.ensures.taken c.take_position.ensures.row
    c.take_position.ensures.kept ∙ fault)

pub returns-clause-stand : goal.returns-clause-stand
returns-clause-stand c =
    on_ok_weaker c.begin_row.result (λ stand. stand
    ∙ sym (passes_on c.args.input.now.parts.now (rows_in c.args.input.now) c.args.run.now.row
    (kept_in c.args.run.now) c.requires.there c.take_position.new.run.running
    c.take_position.new.run.row (kept_in c.take_position.new.run)
    c.in_ok-take_position.ensures.taken c.take_position.ensures.row
    c.take_position.ensures.kept)) c.begin_row.ensures.stand
