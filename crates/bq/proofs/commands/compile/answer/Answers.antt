use Rattle.std.proofs.Common.{[], inr, Ok, ap, refl, sym, subst}
use Rattle.bql_parser.specs.Asked.{Asked}
use Rattle.bq.specs.Asking.{about_program_of}
use Rattle.bq.specs.Compile.{Compiled}
use Rattle.bq.specs.Due.{ComesTo, at_once}
use Rattle.endings.specs.Refusal.{uncompiled}
use Rattle.bq.specs.declared.given.Given.TheVariants.{Kept}
use Rattle.bq.proofs.Outcomes.{converted}
use Rattle.bq.proofs.Programmed.{uncompilable}
use Rattle.bq.proofs.commands.compile.answer.Goals as goal

pub returns-in_err-bytes : goal.returns-in_err-bytes
returns-in_err-bytes c =
    let b = c.args.bounds.now in
    let of = λ (q : Asked). at_once (Compiled b c.args.file q) in
    let r = c.in_err-bytes.field-0.0 in
    subst (ComesTo (about_program_of b of c.args.text.now []))
    (sym (converted c.from_residual.result (uncompiled r) c.from_residual.ensures.1))
    (uncompilable b of c.args.text.now r c.in_err-bytes.ensures)

pub returns : goal.returns
returns c =
    let is = c.in_ok-bytes.ensures in
    inr (
      is.0,
      is.1,
      (
        refl,
        (
          c.in_ok-bytes.bytes.items,
          is.2,
          ap (λ bytes. Ok (Kept c.args.file bytes)) c.new.ensures,
        ),
      ),
    )
