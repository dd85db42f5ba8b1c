use Rattle.std.proofs.Common.{inr, Ok, sym, ap, ap₂, ◌∙◌, subst}
use Rattle.fault_printer.specs.Lines.{lines_of}
use Rattle.bq.specs.Check.{Checked, Checks}
use Rattle.bq.specs.Due.{ComesTo}
use Rattle.endings.specs.Refusal.{unbooked}
use Rattle.endings.specs.Verdict.{verdict_of}
use Rattle.bq.specs.declared.given.Given.TheVariants.{Told}
use Rattle.bq.proofs.Outcomes.{converted, not_found}
use Rattle.bq.proofs.commands.check.CheckingQuestion.answer.Goals as goal

pub returns-in_err-faults : goal.returns-in_err-faults
returns-in_err-faults c =
    let texts = c.args.texts in
    let fault = c.in_err-faults.field-0.0 in
    subst (ComesTo (Checks texts))
    (sym (converted c.from_residual.result (unbooked fault) c.from_residual.ensures.1))
    (not_found texts (Checked texts) fault c.in_err-faults.ensures)

pub returns : goal.returns
returns c =
    let found = c.in_ok-faults.ensures in
    inr (
      found.0,
      found.1,
      ap₂ (λ v t. Ok (Told v t))
          (c.verdict_of-verdict.ensures ∙ ap verdict_of (c.as_slice.ensures ∙ found.2))
          (c.of_lines.ensures ∙ c.in_ok-lines.ensures.lines ∙ ap (lines_of c.args.texts.files) found.2),
    )
