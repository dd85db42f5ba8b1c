-- The tables of programs that don't read the accounts of transactions, over ledgers without them.
use Rattle.std.proofs.Common.{◌≡◌, ℕ, List, Bool, true, false, sym, ap, subst, ◌∙◌, Result, Ok, Err}
use Rattle.std.specs.Prelude.{Vec}
use Rattle.std.specs.declared.alloc.Global.{Global}
use Rattle.limits.specs.declared.bounds.Bounds.{Bounds}
use Rattle.plain_machine.proofs.AnswerFacts.{within_budget}
use Rattle.plain_machine.proofs.UnreadFacts as machine
use Rattle.plain_machine.specs.Answer.{Answer, Answers}
use Rattle.plain_machine.specs.Safety.{RunsSafely}
use Rattle.plain_machine.specs.Unread.{IsSoWithAndWithout, reads_accounts}
use Rattle.posting_table.specs.Decimals.{decimals_of}
use Rattle.posting_table.specs.Ledger.{Ledger}
use Rattle.posting_table.specs.Rows.{rows_of}
use Rattle.query_code.specs.declared.program.Parts.{Parts}
use Rattle.query_code.proofs.QueryFileFacts.{same_program}
use Rattle.query_code.specs.QueryFile.{IsFile}
use Rattle.query_machine.specs.declared.cause.RunCause.{RunCause}
use Rattle.query_machine.specs.declared.cause.RunCause.TheVariants.{OutsideBounds}
use Rattle.query_rows.specs.Fits.{fits}
use Rattle.query_rows.specs.Row.{Row}
use Rattle.query_tables.proofs.TableFacts.{tables_of_queries}
use Rattle.query_tables.specs.Headline.{AnswersFile, IsAnswered, IsOutside}
use Rattle.query_tables.specs.Table.{IsTableOf, Tabulates}
use Rattle.query_tables.specs.Unread.{AreAlikeButAccounts, FileNeedsNoAccounts, IsSoOfBoth}
use Rattle.query_tables.specs.declared.cause.AnswerCause.{AnswerCause}
use Rattle.query_tables.specs.declared.cause.AnswerCause.TheVariants.{NotAccepted, NotRun}
use Rattle.query_verifier.specs.declared.cause.VerifierCause.TheVariants.{Code, File}
use Rattle.refusals.specs.declared.refusal.Refusal.{Refusal}
use Rattle.refusals.specs.declared.refusal.Refusal.TheVariants.{OutOfMemory, Refused}
use Rattle.table_printer.specs.Table.{table_text}
use Rattle.verified_program.specs.declared.checked.Checked.{Checked}

-- ---- from one ledger to another

-- over the second the program does what it does over the first, and is told alike
record DoesAsMuch (p : Parts) (depth : ℕ) (x y : Ledger) : Type 0 where
  within : fits p.bounds (rows_of x) ≡ fits p.bounds (rows_of y)
  safe : RunsSafely p (rows_of x) depth → RunsSafely p (rows_of y) depth
  answers : (a : Answer) → Answers p (rows_of x) a → Answers p (rows_of y) a
  decimals : (currency : List ℕ) → decimals_of x.decimals currency ≡ decimals_of y.decimals currency

table_over : (p : Parts) (depth : ℕ) (x y : Ledger) → DoesAsMuch p depth x y → (text : List ℕ)
    → IsTableOf p depth x text → IsTableOf p depth y text
table_over p depth x y does text is = record {
  within = sym does.within ∙ is.within;
  safe = does.safe is.safe;
  answer = is.answer;
  answers = answers;
  brief = within_budget p (rows_of y) is.answer answers;
  table = table;
  means = tables_of_queries p y is.answer text answers table;
}
  where
    answers : Answers p (rows_of y) is.answer
    answers = does.answers is.answer is.answers

    table : text ≡ table_text p.output.targets is.answer.final (decimals_of y.decimals)
    table =
        is.table
        ∙ ap (table_text p.output.targets is.answer.final) (λ i currency. does.decimals currency i)

-- ---- ledgers without the accounts of transactions

pub same_truth : {b c : Bool} → b ≡ c → (it : Bool) → (b ≡ it → c ≡ it) × (c ≡ it → b ≡ it)
same_truth same it = ((λ e. sym same ∙ e), (λ e. same ∙ e))

module _ (bare l : Ledger) (alike : AreAlikeButAccounts bare l) where
  pub fits_alike : (b : Bounds) → fits b (rows_of bare) ≡ fits b (rows_of l)
  fits_alike b = ap (fits b) alike.rows ∙ machine.fits_alike b (rows_of l)

  both : (IsSo : List Row → Type 0) → IsSoWithAndWithout IsSo
      → (IsSo (rows_of bare) → IsSo (rows_of l)) × (IsSo (rows_of l) → IsSo (rows_of bare))
  both IsSo law = (to, from)
    where
      to : IsSo (rows_of bare) → IsSo (rows_of l)
      to is = (law (rows_of l)).0 (subst IsSo alike.rows is)

      from : IsSo (rows_of l) → IsSo (rows_of bare)
      from is = subst IsSo (sym alike.rows) ((law (rows_of l)).1 is)

  module _ (p : Parts) (unread : reads_accounts p ≡ false) (depth : ℕ) where
    with_them : DoesAsMuch p depth bare l
    with_them = record {
      within = fits_alike p.bounds;
      safe = (both (λ rows. RunsSafely p rows depth) (machine.safe_alike p unread depth)).0;
      answers = λ a. (both (λ rows. Answers p rows a) (machine.answers_alike p unread a)).0;
      decimals = alike.decimals;
    }

    without : DoesAsMuch p depth l bare
    without = record {
      within = sym (fits_alike p.bounds);
      safe = (both (λ rows. RunsSafely p rows depth) (machine.safe_alike p unread depth)).1;
      answers = λ a. (both (λ rows. Answers p rows a) (machine.answers_alike p unread a)).1;
      decimals = λ currency. sym (alike.decimals currency);
    }

pub tables_alike : (p : Parts) → reads_accounts p ≡ false → (depth : ℕ) (text : List ℕ)
    → IsSoOfBoth (λ l. IsTableOf p depth l text)
tables_alike p unread depth text bare l alike = (
  table_over p depth bare l (with_them bare l alike p unread depth) text,
  table_over p depth l bare (without bare l alike p unread depth) text,
)

pub tabulates_alike : (c : Checked) → reads_accounts c.program.parts ≡ false
    → (result : Result (Vec ℕ Global) (Refusal RunCause)) → IsSoOfBoth (λ l. Tabulates c l result)
tabulates_alike c unread (Ok text) = tables_alike c.program.parts unread c.depth text.items
tabulates_alike c unread (Err OutOfMemory) = λ bare l alike.
    same_truth (fits_alike bare l alike c.program.parts.bounds) true
tabulates_alike c unread (Err (Refused OutsideBounds)) = λ bare l alike.
    same_truth (fits_alike bare l alike c.program.parts.bounds) false

-- ---- what bytes answer

pub one_tells : (bytes : List ℕ) (p : Parts) → IsFile bytes p → reads_accounts p ≡ false
    → FileNeedsNoAccounts bytes
one_tells bytes p is unread q depth also =
    ap reads_accounts (same_program bytes q p also.is_file is) ∙ unread

pub texts_alike : (bytes : List ℕ) → FileNeedsNoAccounts bytes → (text : List ℕ)
    → IsSoOfBoth (λ l. IsAnswered bytes l text)
texts_alike bytes unread text bare l alike = (to, from)
  where
    to : IsAnswered bytes bare text → IsAnswered bytes l text
    to is = record {
      program = is.program;
      depth = is.depth;
      verified = is.verified;
      table =
          (tables_alike is.program (unread is.program is.depth is.verified) is.depth text bare l
          alike).0 is.table;
    }

    from : IsAnswered bytes l text → IsAnswered bytes bare text
    from is = record {
      program = is.program;
      depth = is.depth;
      verified = is.verified;
      table =
          (tables_alike is.program (unread is.program is.depth is.verified) is.depth text bare l
          alike).1 is.table;
    }

pub outside_alike : (bytes : List ℕ) → IsSoOfBoth (λ l. IsOutside bytes l)
outside_alike bytes bare l alike = (to, from)
  where
    to : IsOutside bytes bare → IsOutside bytes l
    to is = record {
      program = is.program;
      depth = is.depth;
      verified = is.verified;
      outside = sym (fits_alike bare l alike is.program.bounds) ∙ is.outside;
    }

    from : IsOutside bytes l → IsOutside bytes bare
    from is = record {
      program = is.program;
      depth = is.depth;
      verified = is.verified;
      outside = fits_alike bare l alike is.program.bounds ∙ is.outside;
    }

pub answers_alike : (bytes : List ℕ) → FileNeedsNoAccounts bytes
    → (result : Result (List ℕ) (Refusal AnswerCause))
    → IsSoOfBoth (λ l. AnswersFile bytes l result)
answers_alike bytes unread (Ok text) = texts_alike bytes unread text
answers_alike bytes unread (Err OutOfMemory) = λ bare l alike. ((λ is. is), (λ is. is))
answers_alike bytes unread (Err (Refused (NotAccepted (File cause)))) = λ bare l alike.
    ((λ is. is), (λ is. is))
answers_alike bytes unread (Err (Refused (NotAccepted (Code cause place)))) = λ bare l alike.
    ((λ is. is), (λ is. is))
answers_alike bytes unread (Err (Refused (NotRun OutsideBounds))) = outside_alike bytes
