-- What becomes over a ledger without the accounts of transactions of programs that don't read them.
use Rattle.std.specs.Prelude.{◌≡◌, ℕ, false, List, map}
use Rattle.std.specs.List.{AllByRecursion}
use Rattle.plain_machine.specs.Unread.{reads_accounts}
use Rattle.query_fates.specs.Fates.{AreFates, AreFatesOf, verified}
use Rattle.query_fates.specs.declared.tabulating.Fate.{Fate}
use Rattle.query_tables.specs.Unread.{FileNeedsNoAccounts, IsSoOfBoth}
use Rattle.verified_program.specs.declared.checked.Checked.{Checked}

-- a verified program that doesn't read them
abbrev pub NeedsNoAccounts : Checked → Type 0
NeedsNoAccounts c = reads_accounts c.program.parts ≡ false

-- ---- laws

-- what becomes of programs, none of which reads them, is the same without them
abbrev pub UnreadAccountsFareAlike : Type 0
UnreadAccountsFareAlike =
    (programs : List Checked) → AllByRecursion NeedsNoAccounts programs → (fates : List Fate)
    → IsSoOfBoth (λ l. AreFates l (map verified programs) fates)

-- and of the programs of files
abbrev pub FilesFareAlike : Type 0
FilesFareAlike =
    (files : List (List ℕ)) → AllByRecursion FileNeedsNoAccounts files → (fates : List Fate)
    → IsSoOfBoth (λ l. AreFatesOf l files fates)
