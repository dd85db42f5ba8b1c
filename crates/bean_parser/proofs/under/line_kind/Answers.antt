use Rattle.bean_parser.proofs.LineFacts.{no_line_with_key}
use Rattle.bean_parser.proofs.under.line_kind.Goals as goal
use Rattle.std.proofs.Common.{sym, ◌∙◌}

pub returns-in-None : goal.returns-in-None
returns-in-None c =
    no_line_with_key c.args.in_transaction _
    (sym c.begins_with_key.ensures ∙ c.if-begins_with_key.true) c.in-None.ensures
