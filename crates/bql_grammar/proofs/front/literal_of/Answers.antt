use Rattle.std.proofs.Common.{sym, ap, ◌∙◌, Some, Ok, Err, subst}
use Rattle.bean_base.specs.Day.{ParsesDay}
use Rattle.bql_grammar.specs.Front.{leaf_by}
use Rattle.bql_tree.specs.Number.{number}
use Rattle.bql_grammar.proofs.LiteralFacts.{day_literal, no_day_literal}
use Rattle.bql_grammar.proofs.front.literal_of.Goals as goal

pub returns-in-Number : goal.returns-in-Number
returns-in-Number c = ap Some (c.number.ensures ∙ ap number c.text.ensures)
    ∙ ap (λ k. leaf_by k c.args.token.now.text) (sym c.in-Number.is)

pub returns-in-Ok : goal.returns-in-Ok
returns-in-Ok c =
    day_literal c.args.token.now.text c.in-Ok.day
    (subst (ParsesDay (Ok c.in-Ok.day)) c.text-in-Day.ensures
    (subst (λ r. ParsesDay r c.text-in-Day.result.now) c.in-Ok.is c.parse_day.ensures))
    ∙ ap (λ k. leaf_by k c.args.token.now.text) (sym c.in-Day.is)

pub returns-in-Err : goal.returns-in-Err
returns-in-Err c =
    no_day_literal c.args.token.now.text c.in-Err.field-0
    (subst (ParsesDay (Err c.in-Err.field-0)) c.text-in-Day.ensures
    (subst (λ r. ParsesDay r c.text-in-Day.result.now) c.in-Err.is c.parse_day.ensures))
    ∙ ap (λ k. leaf_by k c.args.token.now.text) (sym c.in-Day.is)
