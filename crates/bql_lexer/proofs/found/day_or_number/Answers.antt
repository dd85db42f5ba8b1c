use Rattle.std.proofs.Common.{subst, sym, ap, ◌∙◌}
use Rattle.std.specs.Str.{IsCharBoundary}
use Rattle.bql_lexer.specs.Token.{number_len, begins_with_day}
use Rattle.bql_lexer.proofs.TokenFacts.{day_boundary, number_boundary}
use Rattle.bql_lexer.proofs.found.day_or_number.Goals as goal

pub cut-requires : goal.cut-requires
cut-requires c =
    day_boundary c.args.text.now
    (ap begins_with_day (sym c.as_bytes.ensures.value) ∙ sym c.begins_with_day.ensures
    ∙ c.if-begins_with_day.true) c.utf8.text

pub cut-requires-else-begins_with_day : goal.cut-requires-else-begins_with_day
cut-requires-else-begins_with_day c =
    subst (IsCharBoundary c.args.text.now)
    (sym (c.number_len.ensures ∙ ap number_len c.as_bytes-else-begins_with_day.ensures.value))
    (number_boundary c.args.text.now c.utf8.text)
