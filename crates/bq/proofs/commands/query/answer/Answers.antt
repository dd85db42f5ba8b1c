use Rattle.std.proofs.Common.{[], sym, subst}
use Rattle.stores.proofs.GaveFacts.{gave_none}
use Rattle.bql_parser.specs.Asked.{Asked}
use Rattle.query_rows.specs.ColumnShape.{widest}
use Rattle.query_files.specs.Texts.{IsFileOf}
use Rattle.bq.specs.Asking.{about_program_of}
use Rattle.bq.specs.Due.{ComesTo}
use Rattle.bq.specs.Ledgers.{about_book, about_ledger}
use Rattle.bq.specs.Query.{Answered, FileAnswers, HasBounds}
use Rattle.endings.specs.Refusal.{uncompiled}
use Rattle.bq.proofs.Outcomes.{converted}
use Rattle.bq.proofs.Programmed.{answered, has_bounds, of_ledger, programmed, uncompilable}
use Rattle.requests.proofs.BoundsFacts.{widest_are}
use Rattle.bq.proofs.commands.query.answer.Goals as goal

pub compiled-requires : goal.compiled-requires
compiled-requires g c = widest_are

pub returns-in_err-file : goal.returns-in_err-file
returns-in_err-file g c =
    let of = λ (q : Asked). about_ledger (about_book (Answered q)) c.args.ledger.now in
    let text = c.args.text.now in
    let r = c.in_err-file.field-0.0 in
    let step = c.from_residual in (
      [],
      gave_none g.S.Source c.args.store.now,
      subst (ComesTo (about_program_of widest of text []))
          (sym (converted step.result (uncompiled r) step.ensures.1))
          (uncompilable widest of text r c.in_err-file.ensures),
    )

pub invariant_of-answer_about : goal.invariant_of-answer_about
invariant_of-answer_about g c =
    let is = c.in_ok-file.ensures in
    record {
      by_widest = subst (HasBounds widest) (sym c.deref.ensures.value)
          (has_bounds widest is.0 c.in_ok-file.file.items is.2);
    }

pub returns : goal.returns
returns g c =
    let ledger = c.args.ledger.now in
    let of = λ (q : Asked). about_ledger (about_book (Answered q)) ledger in
    let is = c.in_ok-file.ensures in
    let file = c.deref.result.now in
    let found = c.answer_about.ensures in (
      found.0,
      found.1,
      programmed widest of c.args.text.now is.0 is.1 found.0
          (about_ledger (about_book (FileAnswers file)) ledger found.0)
          (of_ledger (FileAnswers file) (Answered is.0)
          (answered file is.0
          (subst (IsFileOf widest is.0) (sym c.deref.ensures.value) is.2)) ledger found.0)
          c.answer_about.result found.2,
    )
