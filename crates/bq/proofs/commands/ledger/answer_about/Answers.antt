use Rattle.std.proofs.Common.{sym, subst}
use Rattle.bq.specs.Ledgers.{about_ledger}
use Rattle.endings.specs.Refusal.{unread}
use Rattle.bq.specs.Runs.{Finds}
use Rattle.bq.proofs.Outcomes.{converted, told, ungathered}
use Rattle.bq.proofs.commands.ledger.answer_about.Goals as goal

pub returns-in_err-texts : goal.returns-in_err-texts
returns-in_err-texts g c =
    let s = g.S.Source in
    let name = c.args.ledger.now in
    let says = g.Q.Question.says c.args.question.now in
    let r = c.in_err-texts.field-0.0 in
    subst (Finds s c.args.store.now c.gather.new.source (about_ledger says name))
    (sym (converted c.from_residual.result (unread r) c.from_residual.ensures.1))
    (ungathered s c.args.store.now c.gather.new.source says name r c.in_err-texts.ensures)

pub returns : goal.returns
returns g c =
    let come = c.in_ok-texts.ensures in (
      come.0,
      come.1,
      told c.args.ledger.now come.0 c.in_ok-texts.texts come.2 (g.Q.Question.says c.args.question.now) c.answer.result
          c.answer.ensures,
    )
