-- Ledgers without the accounts of transactions, and the tables of programs that don't read them.
use Rattle.std.specs.Prelude.{◌≡◌, ℕ, false, List, map, Result, Vec}
use Rattle.std.specs.declared.alloc.Global.{Global}
use Rattle.limits.specs.declared.bounds.Bounds.{Bounds}
use Rattle.plain_machine.specs.Unread.{but_accounts, reads_accounts}
use Rattle.posting_table.specs.Decimals.{decimals_of}
use Rattle.posting_table.specs.Ledger.{Ledger}
use Rattle.posting_table.specs.Rows.{rows_of}
use Rattle.query_code.specs.declared.program.Parts.{Parts}
use Rattle.query_machine.specs.declared.cause.RunCause.{RunCause}
use Rattle.query_code.specs.QueryFile.{IsFile}
use Rattle.query_rows.specs.Fits.{fits}
use Rattle.query_tables.specs.Headline.{AnswersFile, IsAnswered, IsOutside}
use Rattle.query_tables.specs.Table.{IsTableOf, Tabulates}
use Rattle.query_tables.specs.declared.cause.AnswerCause.{AnswerCause}
use Rattle.query_verifier.specs.Checking.{IsVerified}
use Rattle.refusals.specs.declared.refusal.Refusal.{Refusal}
use Rattle.verified_program.specs.declared.checked.Checked.{Checked}

-- The first ledger is the second without the accounts of transactions: its rows are those of the
-- second without them, in their order, and each currency shows as many decimals.
pub record AreAlikeButAccounts (bare l : Ledger) : Type 0 where
  pub rows : rows_of bare ≡ map but_accounts (rows_of l)
  pub decimals : (currency : List ℕ)
      → decimals_of bare.decimals currency ≡ decimals_of l.decimals currency

-- what is said of a ledger is so without the accounts of transactions if and only if it is so with
-- them
abbrev pub IsSoOfBoth : (Ledger → Type 0) → Type 0
IsSoOfBoth IsSo =
    (bare l : Ledger) → AreAlikeButAccounts bare l → (IsSo bare → IsSo l) × (IsSo l → IsSo bare)

-- the program of a file, if it is accepted, doesn't read them
abbrev pub FileNeedsNoAccounts : List ℕ → Type 0
FileNeedsNoAccounts bytes =
    (p : Parts) (depth : ℕ) → IsVerified bytes p depth → reads_accounts p ≡ false

-- ---- laws

-- a program that doesn't read them has the same table without them
abbrev pub UnreadAccountsHaveOneTable : Type 0
UnreadAccountsHaveOneTable =
    (p : Parts) → reads_accounts p ≡ false → (depth : ℕ) (text : List ℕ)
    → IsSoOfBoth (λ l. IsTableOf p depth l text)

-- whatever a program reads, they don't change whether a ledger is within its bounds
abbrev pub BoundsWithoutAccounts : Type 0
BoundsWithoutAccounts =
    (b : Bounds) (bare l : Ledger) → AreAlikeButAccounts bare l
    → fits b (rows_of bare) ≡ fits b (rows_of l)

-- so a verified program that doesn't read them comes to the same
abbrev pub UnreadAccountsTabulateAlike : Type 0
UnreadAccountsTabulateAlike =
    (c : Checked) → reads_accounts c.program.parts ≡ false
    → (result : Result (Vec ℕ Global) (Refusal RunCause)) → IsSoOfBoth (λ l. Tabulates c l result)

-- a file has one program, so it is enough to look at that
abbrev pub OneProgramTells : Type 0
OneProgramTells =
    (bytes : List ℕ) (p : Parts) → IsFile bytes p → reads_accounts p ≡ false
    → FileNeedsNoAccounts bytes

-- bytes whose program doesn't read them have the same text without them
abbrev pub UnreadAccountsHaveOneText : Type 0
UnreadAccountsHaveOneText =
    (bytes : List ℕ) → FileNeedsNoAccounts bytes → (text : List ℕ)
    → IsSoOfBoth (λ l. IsAnswered bytes l text)

-- whatever the program of bytes reads, they don't change whether a ledger is outside its bounds
abbrev pub OutsideWithoutAccounts : Type 0
OutsideWithoutAccounts = (bytes : List ℕ) → IsSoOfBoth (λ l. IsOutside bytes l)

-- so bytes whose program doesn't read them answer the same
abbrev pub FilesAnswerAlike : Type 0
FilesAnswerAlike =
    (bytes : List ℕ) → FileNeedsNoAccounts bytes
    → (result : Result (List ℕ) (Refusal AnswerCause))
    → IsSoOfBoth (λ l. AnswersFile bytes l result)
