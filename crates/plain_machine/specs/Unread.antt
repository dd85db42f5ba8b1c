-- Programs that don't read the accounts of transactions, and ledgers without them.
use Rattle.std.specs.Prelude.{◌≡◌, ◌||◌, ℕ, Bool, true, false, List, [], map, Option, Some}
use Rattle.std.specs.List.{list_any}
use Rattle.limits.specs.declared.bounds.Bounds.{Bounds}
use Rattle.limits.specs.declared.bounds.Version.{Version}
use Rattle.query_values.specs.declared.value.Value.{Value}
use Rattle.query_values.specs.declared.value.Value.TheVariants.{Set}
use Rattle.query_terms.specs.Column.{numbered_in}
use Rattle.query_terms.specs.declared.column.Column.{Column}
use Rattle.query_terms.specs.declared.column.Column.TheVariants.{Accounts}
use Rattle.query_code.specs.declared.instruction.Instruction.{Instruction}
use Rattle.query_code.specs.declared.instruction.Instruction.TheVariants.{Push}
use Rattle.query_code.specs.declared.instruction.Push.TheVariants.{LoadColumn}
use Rattle.query_code.specs.declared.program.Parts.{Parts}
use Rattle.query_rows.specs.Fits.{fits}
use Rattle.query_rows.specs.Row.{Row}
use Rattle.plain_machine.specs.Answer.{Answer, Answers, IsWithinBudget}
use Rattle.plain_machine.specs.PlainMachine.{Stand, InFilter, InRow, InLast, Done, Fault}
use Rattle.plain_machine.specs.PlainMachine.{stand_after}
use Rattle.plain_machine.specs.Safety.{RunsSafely}

-- ---- rows without accounts

-- no accounts; in each other column what the row has there
abbrev pub cell_but_accounts : Row → Column → Value
cell_but_accounts r Accounts = Set []
cell_but_accounts r c = r.cell c

abbrev pub but_accounts : Row → Row
but_accounts r = record {
  cell = cell_but_accounts r;
  posting_entries = r.posting_entries;
  transaction_entries = r.transaction_entries;
}

-- ---- programs that don't read them

abbrev pub is_accounts : Option Column → Bool
is_accounts (Some Accounts) = true
is_accounts c = false

-- it loads the accounts, under the number that a schema gives them
abbrev pub loads_accounts : Version → Instruction → Bool
loads_accounts v (Push (LoadColumn n)) = is_accounts (numbered_in v n)
loads_accounts v i = false

-- the last section has no row to load them from
abbrev pub reads_accounts : Parts → Bool
reads_accounts p =
    list_any (loads_accounts p.bounds.schema) p.code.filter
    || list_any (loads_accounts p.bounds.schema) p.code.row

-- ---- laws

-- without accounts in the row where it stands, and in those that are still to come
abbrev pub stand_but_accounts : {X : Type 0} → Stand X → Stand X
stand_but_accounts (InFilter r rest k q s) =
    InFilter (but_accounts r) (map but_accounts rest) k q s
stand_but_accounts (InRow r rest k q s) = InRow (but_accounts r) (map but_accounts rest) k q s
stand_but_accounts (InLast g rest rows q s) = InLast g rest rows q s
stand_but_accounts (Done rows) = Done rows
stand_but_accounts Fault = Fault

-- a program that doesn't read them stands, after each step, where it would if they were there
abbrev pub UnreadAccountsRunAlike : Type 0
UnreadAccountsRunAlike = (p : Parts) → reads_accounts p ≡ false → (ledger : List Row) (n : ℕ)
    → stand_after p (map but_accounts ledger) n ≡ stand_but_accounts (stand_after p ledger n)

-- what is said of a ledger is so without accounts if and only if it is so with them
abbrev pub IsSoWithAndWithout : (List Row → Type 0) → Type 0
IsSoWithAndWithout IsSo =
    (ledger : List Row)
    → (IsSo (map but_accounts ledger) → IsSo ledger) × (IsSo ledger → IsSo (map but_accounts ledger))

-- so it has the same answer
abbrev pub UnreadAccountsAnswerAlike : Type 0
UnreadAccountsAnswerAlike =
    (p : Parts) → reads_accounts p ≡ false → (a : Answer)
    → IsSoWithAndWithout (λ ledger. Answers p ledger a)

-- and is as safe
abbrev pub UnreadAccountsAreAsSafe : Type 0
UnreadAccountsAreAsSafe =
    (p : Parts) → reads_accounts p ≡ false → (depth : ℕ)
    → IsSoWithAndWithout (λ ledger. RunsSafely p ledger depth)

-- budgets and bounds don't ask for accounts, whatever the program reads
abbrev pub BudgetsWithoutAccounts : Type 0
BudgetsWithoutAccounts =
    (p : Parts) (a : Answer) → IsSoWithAndWithout (λ ledger. IsWithinBudget p ledger a)

abbrev pub FitsWithoutAccounts : Type 0
FitsWithoutAccounts =
    (b : Bounds) (ledger : List Row) → fits b (map but_accounts ledger) ≡ fits b ledger
