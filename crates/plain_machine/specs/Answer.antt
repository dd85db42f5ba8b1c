-- What a run of a program over the rows of a ledger comes to.
use Rattle.std.specs.Prelude.{◌≡◌, ℕ, ◌<◌, ◌≤◌, true, List, length, Some}
use Rattle.query_values.specs.declared.value.Value.{Value}
use Rattle.query_code.specs.declared.program.Parts.{Parts}
use Rattle.query_rows.specs.Row.{Row}
use Rattle.plain_machine.specs.Finishing.{ComesOut}
use Rattle.plain_machine.specs.Gathering.{all_inputs}
use Rattle.plain_machine.specs.PlainMachine.{Done, Fault, stand_after}
use Rattle.plain_machine.specs.WholeRun.{answer, budget, is_going}

-- how many steps were made, the rows at the end, and those that come out of them
pub record Answer : Type 0 where
  pub steps : ℕ
  pub rows : List (List Value)
  pub final : List (List Value)

-- how many groups there were, or where postings aren't grouped, how many of them passed: each gave
-- one row
abbrev pub groups : Answer → ℕ
groups a = length a.rows

-- The program ends in these rows after so many steps and not after fewer, and this comes out.
pub record Answers (p : Parts) (ledger : List Row) (a : Answer) : Type 0 where
  pub done : stand_after p ledger a.steps ≡ Done a.rows
  pub going : (k : ℕ) → k < a.steps → is_going (stand_after p ledger k) ≡ true
  pub comes_out : ComesOut p.output a.rows a.final

-- whatever is done, none of it is a fault
abbrev pub NeverFaults : Parts → List Row → Type 0
NeverFaults p ledger = (n : ℕ) → stand_after p ledger n ≡ Fault → ⊥

-- ---- laws

-- a program that never faults has an answer
abbrev pub AnswersWithoutFault : Type 0
AnswersWithoutFault = (p : Parts) (ledger : List Row) → NeverFaults p ledger
    → (a : Answer) × Answers p ledger a

-- and one that has an answer never faults
abbrev pub NoFaultWithAnswer : Type 0
NoFaultWithAnswer = (p : Parts) (ledger : List Row) (a : Answer) → Answers p ledger a
    → NeverFaults p ledger

-- there is at most one
abbrev pub AnswersAreOne : Type 0
AnswersAreOne = (p : Parts) (ledger : List Row) (a b : Answer) → Answers p ledger a
    → Answers p ledger b → a ≡ b

-- its rows are those to which the sections come
abbrev pub AnswersAreOfSections : Type 0
AnswersAreOfSections = (p : Parts) (ledger : List Row) (a : Answer) → Answers p ledger a
    → answer (all_inputs p.code.aggregates) p ledger ≡ Some a.rows

-- no more groups than postings, and no more steps than the budget of both
pub record IsWithinBudget (p : Parts) (ledger : List Row) (a : Answer) : Type 0 where
  pub groups_few : groups a ≤ length ledger
  pub steps_few : a.steps ≤ budget p (length ledger) (groups a)

abbrev pub AnswersAreWithinBudget : Type 0
AnswersAreWithinBudget = (p : Parts) (ledger : List Row) (a : Answer) → Answers p ledger a
    → IsWithinBudget p ledger a
