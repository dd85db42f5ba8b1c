use Rattle.std.proofs.Common.{inr, length, Ok, sym, ap, ap₂, ◌∙◌, subst}
use Rattle.bq.specs.Batch.{FilesBatched, text_of, verdict_of}
use Rattle.bq.specs.Due.{ComesTo}
use Rattle.bq.specs.Ledgers.{about_book}
use Rattle.endings.specs.Refusal.{unbooked}
use Rattle.bq.specs.declared.given.Given.TheVariants.{Told}
use Rattle.endings.specs.declared.refusal.Refusal.TheVariants.{OutOfMemory}
use Rattle.bq.proofs.BatchFacts.{fates_for}
use Rattle.bq.proofs.Outcomes.{converted, not_booked}
use Rattle.bq.proofs.DetailsFacts.{fates_of_whole}
use Rattle.bq.proofs.commands.batch.BatchingQuestion.answer.Goals as goal

pub file_fates-requires-clause-some : goal.file_fates-requires-clause-some
file_fates-requires-clause-some c = c.args.self.now.some

pub file_fates-requires-clause-accepted : goal.file_fates-requires-clause-accepted
file_fates-requires-clause-accepted c = c.args.self.now.accepted

pub text_of-requires : goal.text_of-requires
text_of-requires c =
    let batch = c.args.self.now in
    ap length c.deref.ensures.value
    ∙ fates_for c.in_ok-ledger.ledger batch.files.now c.in_ok-ended.ended.items
    c.in_ok-ended.ensures
    ∙ batch.each

pub returns-in_err-details : goal.returns-in_err-details
returns-in_err-details c =
    let batch = c.args.self.now in
    let step = c.from_residual in
    subst
    (ComesTo (about_book (FilesBatched batch.names.now batch.files.now) c.args.texts))
    (sym (converted step.result OutOfMemory step.ensures.1)) tt

pub returns-in_err-ledger : goal.returns-in_err-ledger
returns-in_err-ledger c =
    let texts = c.args.texts in
    let batch = c.args.self.now in
    let says = FilesBatched batch.names.now batch.files.now in
    let fault = c.in_err-ledger.field-0.0 in
    let step = c.from_residual-in_err-ledger in
    subst (ComesTo (about_book says texts))
    (sym (converted step.result (unbooked fault) step.ensures.1))
    (not_booked c.in_ok-details.details texts says fault c.in_err-ledger.ensures)

pub returns-in_err-ended : goal.returns-in_err-ended
returns-in_err-ended c =
    let batch = c.args.self.now in
    let step = c.from_residual-in_err-ended in
    subst
    (ComesTo (about_book (FilesBatched batch.names.now batch.files.now) c.args.texts))
    (sym (converted step.result OutOfMemory step.ensures.1)) tt

pub returns-in_err-text : goal.returns-in_err-text
returns-in_err-text c =
    let batch = c.args.self.now in
    let step = c.from_residual-in_err-text in
    subst
    (ComesTo (about_book (FilesBatched batch.names.now batch.files.now) c.args.texts))
    (sym (converted step.result OutOfMemory step.ensures.1)) tt

pub returns : goal.returns
returns c =
    let batch = c.args.self.now in
    let whole =
    fates_of_whole c.args.texts c.in_ok-details.details c.in_ok-ledger.ledger c.in_ok-ledger.ensures
    batch.files.now c.in_ok-details.ensures c.in_ok-ended.ended.items c.in_ok-ended.ensures in
    inr (
      whole.0,
      whole.1,
      (
        c.in_ok-ended.ended.items,
        whole.2,
        ap₂ (λ v t. Ok (Told v t)) (c.verdict_of.ensures ∙ ap verdict_of c.deref-2.ensures.value)
            (c.new.ensures ∙ c.in_ok-text.ensures ∙ ap (text_of batch.names.now) c.deref.ensures.value),
      ),
    )
