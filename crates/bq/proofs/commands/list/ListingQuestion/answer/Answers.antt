use Rattle.std.proofs.Common.{inr, Ok, sym, ap, ◌∙◌, subst}
use Rattle.bean_book.specs.declared.details.Details.TheVariants.{Few}
use Rattle.bean_book.proofs.LeftOutFacts.{whole_book}
use Rattle.bq.specs.Due.{ComesTo}
use Rattle.bq.specs.List.{Listed, Lists, table_of}
use Rattle.endings.specs.Refusal.{unbooked}
use Rattle.bq.specs.declared.given.Given.TheVariants.{Told}
use Rattle.endings.specs.declared.verdict.Verdict.TheVariants.{Fine}
use Rattle.bq.proofs.Outcomes.{converted, not_booked}
use Rattle.bq.proofs.ShownFacts.{listed_alike}
use Rattle.bq.proofs.commands.list.ListingQuestion.answer.Goals as goal

pub returns-in_err-ledger : goal.returns-in_err-ledger
returns-in_err-ledger c =
    let texts = c.args.texts in
    let fault = c.in_err-ledger.field-0.0 in
    subst (ComesTo (Lists texts))
    (sym (converted c.from_residual.result (unbooked fault) c.from_residual.ensures.1))
    (not_booked Few texts Listed fault c.in_err-ledger.ensures)

pub returns : goal.returns
returns c =
    let books = c.in_ok-ledger.ensures in
    let book = books.1 in
    let whole = whole_book Few book.0 books.0 book.2 in
    inr (
      whole.0,
      (book.0, book.1, whole.1),
      ap (λ t. Ok (Told Fine t))
          (c.of_table.ensures ∙ c.in_ok-text.ensures ∙ ap table_of books.2
          ∙ listed_alike books.0 whole.0 whole.2),
    )
