use Rattle.std.proofs.Common.{[], sym, subst}
use Rattle.stores.proofs.GaveFacts.{gave_none}
use Rattle.bq.specs.Due.{ComesTo}
use Rattle.bq.specs.Ledgers.{about_book, about_ledger}
use Rattle.bq.specs.Ran.{FileRan, Ran}
use Rattle.endings.specs.Refusal.{unaccepted}
use Rattle.bq.specs.RunFile.{of_bytes}
use Rattle.bq.proofs.Outcomes.{converted, not_accepted, of_program, within}
use Rattle.bq.proofs.Programmed.{of_ledger, ran}
use Rattle.bq.proofs.commands.run_file.answer_of.Goals as goal

pub returns-in_err-outlined : goal.returns-in_err-outlined
returns-in_err-outlined g c =
    let ledger = c.args.ledger.now in
    let r = c.in_err-outlined.field-0.0 in (
      [],
      gave_none g.S.Source c.args.store.now,
      subst (ComesTo (of_bytes ledger c.args.bytes.now []))
          (sym (converted c.from_residual.result (unaccepted r) c.from_residual.ensures.1))
          (not_accepted (λ p depth. about_ledger (about_book (Ran p depth)) ledger) c.args.bytes.now r
          c.in_err-outlined.ensures),
    )

pub returns : goal.returns
returns g c =
    let file = c.args.bytes.now in
    let ledger = c.args.ledger.now in
    let of = c.in_ok-outlined.ensures in
    let found = c.answer_about.ensures in
    let result = c.answer_about.result in (
      found.0,
      found.1,
      of_program (λ p depth. about_ledger (about_book (Ran p depth)) ledger) file found.0 of.0 of.1
          of.2 result
          (within (about_ledger (about_book (FileRan file)) ledger found.0)
          (about_ledger (about_book (Ran of.0 of.1)) ledger found.0)
          (of_ledger (FileRan file) (Ran of.0 of.1) (ran file of.0 of.1 of.2) ledger found.0) result
          found.2),
    )
