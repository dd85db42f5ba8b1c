use Rattle.std.proofs.Common.{inl, sym, ◌∙◌}
use Rattle.bean_lexer.proofs.DayFacts.{day_token, day_boundary, number_token}
use Rattle.bean_lexer.proofs.digits.day_or_number.Goals as goal

pub returns-then-begins_with_day-clause-token : goal.returns-then-begins_with_day-clause-token
returns-then-begins_with_day-clause-token c =
    inl (day_token c.args.bytes.now c.requires.digit
    (sym c.begins_with_day.ensures ∙ c.if-begins_with_day.true))

pub returns-then-begins_with_day-clause-boundary : goal.returns-then-begins_with_day-clause-boundary
returns-then-begins_with_day-clause-boundary c =
    day_boundary c.args.bytes.now (sym c.begins_with_day.ensures ∙ c.if-begins_with_day.true)

pub returns-else-begins_with_day-clause-token : goal.returns-else-begins_with_day-clause-token
returns-else-begins_with_day-clause-token c =
    inl (number_token c.args.bytes.now c.number_len.result c.requires.digit
    (sym c.begins_with_day.ensures ∙ c.if-begins_with_day.false) c.number_len.ensures.number)
