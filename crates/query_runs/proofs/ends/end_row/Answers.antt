use Rattle.std.proofs.Common.{◌∙◌, sym}
use Rattle.std.proofs.lemmas.Result.{on_ok_weaker}
use Rattle.query_runs.specs.Stands.{kept_in, rows_in}
use Rattle.query_runs.proofs.Ending.{kept_there, row_next}
use Rattle.query_runs.proofs.ends.end_row.Goals as goal

pub keep-requires : goal.keep-requires
keep-requires c =
    kept_there c.args.input.now.parts.now (rows_in c.args.input.now) c.args.run.now.row
    (kept_in c.args.run.now) c.args.run.now.frame.stack.values c.requires.there c.requires.fine

pub start_row-requires : goal.start_row-requires
start_row-requires c = λ fault.
    c.requires.fine
    (row_next c.args.input.now.parts.now (rows_in c.args.input.now) c.args.run.now.row
    (kept_in c.args.run.now) c.args.run.now.frame.stack.values c.requires.there
    (kept_in c.keep.new.run) c.keep.new.run.row c.next_row.new.run.row
    (kept_in c.next_row.new.run) c.in_ok-keep.ensures.kept c.keep.ensures.row
    c.next_row.ensures.row c.next_row.ensures.kept ∙ fault)

pub returns-clause-stand : goal.returns-clause-stand
returns-clause-stand c =
    on_ok_weaker c.start_row.result (λ stand. stand
    ∙ sym (row_next c.args.input.now.parts.now (rows_in c.args.input.now) c.args.run.now.row
    (kept_in c.args.run.now) c.args.run.now.frame.stack.values c.requires.there
    (kept_in c.keep.new.run) c.keep.new.run.row c.next_row.new.run.row
    (kept_in c.next_row.new.run) c.in_ok-keep.ensures.kept c.keep.ensures.row
    c.next_row.ensures.row c.next_row.ensures.kept)) c.start_row.ensures.stand
