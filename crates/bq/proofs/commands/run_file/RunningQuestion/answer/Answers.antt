use Rattle.std.proofs.Common.{inr, Ok, Err, sym, subst}
use Rattle.bq.specs.Due.{ComesTo}
use Rattle.bq.specs.Ledgers.{about_book}
use Rattle.bq.specs.Ran.{FileRan}
use Rattle.endings.specs.Refusal.{unbooked}
use Rattle.bq.specs.declared.given.Given.TheVariants.{Told}
use Rattle.endings.specs.declared.refusal.Refusal.TheVariants.{OutOfMemory}
use Rattle.endings.specs.declared.verdict.Verdict.TheVariants.{Fine}
use Rattle.bq.proofs.Outcomes.{converted, not_booked}
use Rattle.bq.proofs.Programmed.{file_ran, not_run}
use Rattle.bq.proofs.DetailsFacts.{has_of_whole}
use Rattle.bq.proofs.commands.run_file.RunningQuestion.answer.Goals as goal

pub returns-in_err-details : goal.returns-in_err-details
returns-in_err-details c =
    let step = c.from_residual in
    subst (ComesTo (about_book (FileRan c.args.self.now.file.now) c.args.texts))
    (sym (converted step.result OutOfMemory step.ensures.1)) tt

pub returns-in_err-ledger : goal.returns-in_err-ledger
returns-in_err-ledger c =
    let texts = c.args.texts in
    let says = FileRan c.args.self.now.file.now in
    let fault = c.in_err-ledger.field-0.0 in
    let step = c.from_residual-in_err-ledger in
    subst (ComesTo (about_book says texts))
    (sym (converted step.result (unbooked fault) step.ensures.1))
    (not_booked c.in_ok-details.details texts says fault c.in_err-ledger.ensures)

pub returns-in_err-text : goal.returns-in_err-text
returns-in_err-text c =
    let texts = c.args.texts in
    let file = c.args.self.now.file.now in
    let fault = c.in_err-text.field-0.0 in
    let whole =
    has_of_whole texts c.in_ok-details.details c.in_ok-ledger.ledger c.in_ok-ledger.ensures file
    c.in_ok-details.ensures (Err fault) c.in_err-text.ensures in
    subst (ComesTo (about_book (FileRan file) texts))
    (sym (converted c.from_residual-in_err-text.result fault c.from_residual-in_err-text.ensures.1))
    (not_run texts whole.0 whole.1 file fault whole.2)

pub returns : goal.returns
returns c =
    let file = c.args.self.now.file.now in
    let text = c.in_ok-text.text in
    let whole =
    has_of_whole c.args.texts c.in_ok-details.details c.in_ok-ledger.ledger c.in_ok-ledger.ensures
    file c.in_ok-details.ensures (Ok text) c.in_ok-text.ensures in
    let says = file_ran whole.0 file text whole.2 in
    inr (
      whole.0,
      whole.1,
      subst (λ t. FileRan file whole.0 (Ok (Told Fine t))) (sym c.of_table.ensures) says,
    )
