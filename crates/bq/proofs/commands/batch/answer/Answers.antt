use Rattle.std.proofs.Common.{◌++◌, length, sym, ap, ◌∙◌, subst}
use Rattle.std.specs.List.{AllByRecursion}
use Rattle.query_fates.specs.Fates.{HasProgram}
use Rattle.bean_book.specs.Book.{Book}
use Rattle.stores.proofs.GaveFacts.{gave_behind}
use Rattle.requests.specs.Batch.{words_of}
use Rattle.bq.specs.Batch.{Batched, FilesBatched, batch}
use Rattle.bq.specs.Due.{End}
use Rattle.bq.specs.Ledgers.{about_book, about_ledger}
use Rattle.bq.specs.Runs.{Finds}
use Rattle.bq.proofs.AcceptedFacts.{all_due, all_have, batched, files_for, not_all, programs_of}
use Rattle.bq.proofs.Outcomes.{converted, within}
use Rattle.bq.proofs.Programmed.{of_ledger}
use Rattle.bq.proofs.commands.batch.answer.Goals as goal

pub returns-in_err-files : goal.returns-in_err-files
returns-in_err-files g c =
    let s = g.S.Source in
    let a = c.args.store.now in
    let b = c.accepted_files.new.store in
    let ledger = c.args.ledger.now in
    let names = c.args.names.now in
    let r = c.in_err-files.field-0.0 in
    subst (Finds s a b (batch.due (words_of c.args.steps ledger names)))
    (sym (converted c.from_residual.result r c.from_residual.ensures.1))
    (not_all s a b (λ programs. about_ledger (about_book (Batched names programs)) ledger) names r
    c.in_err-files.ensures)

pub invariant_of-batch-clause-each : goal.invariant_of-batch-clause-each
invariant_of-batch-clause-each g c =
    let read = c.in_ok-files.ensures in
    ap length c.as_slice.ensures
    ∙ files_for c.args.names.now read.0 c.in_ok-files.files read.2

pub invariant_of-batch-clause-accepted : goal.invariant_of-batch-clause-accepted
invariant_of-batch-clause-accepted g c =
    let read = c.in_ok-files.ensures in
    subst (λ fs. ∥ AllByRecursion HasProgram fs ∥₁) (sym c.as_slice.ensures)
    ∣ all_have c.args.names.now read.0 c.in_ok-files.files read.2 ∣₁

pub returns : goal.returns
returns g c =
    let ledger = c.args.ledger.now in
    let names = c.args.names.now in
    let files = c.in_ok-files.files in
    let read = c.in_ok-files.ensures in
    let found = c.answer_about.ensures in
    let result = c.answer_about.result in
    let programs = programs_of files (all_have names read.0 files read.2) in
    let given = c.as_slice.result.now in (
      read.0 ++ found.0,
      gave_behind g.S.Source c.args.store.now c.accepted_files.new.store c.answer_about.new.store
          read.0 found.0 read.1 found.1,
      all_due (λ ps. about_ledger (about_book (Batched names ps)) ledger) names read.0 files
          programs.0 read.2 programs.1 found.0 result
          (within (about_ledger (about_book (FilesBatched names given)) ledger found.0)
          (about_ledger (about_book (Batched names programs.0)) ledger found.0)
          (of_ledger (FilesBatched names given) (Batched names programs.0)
          (subst
          (λ fs. (b : Book) (end : End) → FilesBatched names fs b end → Batched names programs.0 b end)
          (sym c.as_slice.ensures) (batched names files programs.0 programs.1)) ledger found.0) result
          found.2),
    )
