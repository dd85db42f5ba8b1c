use Rattle.query_answer.proofs.MovedFacts.{put_around}
use Rattle.query_answer.proofs.rows.move_span.Goals as goal

pub returns-in_err-move_values-clause-left : goal.returns-in_err-move_values-clause-left
returns-in_err-move_values-clause-left c =
    put_around c.args.span c.args.from.now c.move_values.new.from c.requires.up c.requires.inside
    c.move_values.ensures.left

pub returns-clause-left : goal.returns-clause-left
returns-clause-left c =
    put_around c.args.span c.args.from.now c.move_values.new.from c.requires.up c.requires.inside
    c.move_values.ensures.left
