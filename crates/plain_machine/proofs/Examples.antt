-- What programs do over a few rows, computed.
use Rattle.std.proofs.Common.{◌≡◌, ◌<◌, ◌≤◌, ◌^◌, ◌-◌, ℕ, ℤ, pos, negsuc, Bool, true, false, List}
use Rattle.std.proofs.Common.{[], ◌∷◌, None, codes, refl, arith}
use Rattle.limits.specs.declared.bounds.Version.TheVariants.{First}
use Rattle.bean_lots.specs.declared.lot.Key.{Key}
use Rattle.query_terms.specs.declared.column.Column.{Column}
use Rattle.query_terms.specs.declared.column.Column.TheVariants as column
use Rattle.query_values.specs.declared.operation.Aggregate.{Aggregate}
use Rattle.query_values.specs.declared.operation.Aggregate.TheVariants as aggregate
use Rattle.query_values.specs.declared.operation.Binary.TheVariants as binary
use Rattle.query_values.specs.declared.value.Value.{Value}
use Rattle.query_values.specs.declared.value.Value.TheVariants.{Null, Truth, Number, Text, Position}
use Rattle.query_values.specs.declared.value.Value.TheVariants.{Inventory, Set}
use Rattle.query_code.specs.declared.instruction.Push.TheVariants as push
use Rattle.query_code.specs.declared.instruction.Unary.TheVariants as unary
use Rattle.query_code.specs.declared.instruction.Instruction.{Instruction}
use Rattle.query_code.specs.declared.instruction.Instruction.TheVariants.{Push, Unary, Binary}
use Rattle.query_code.specs.declared.instruction.Instruction.TheVariants.{LoadSlot, StoreSlot, Jump}
use Rattle.query_code.specs.declared.instruction.Instruction.TheVariants.{JumpIfFalse}
use Rattle.query_code.specs.declared.program.Constant.{Constant}
use Rattle.query_code.specs.declared.program.Constant.TheVariants as constant
use Rattle.query_code.specs.declared.program.Mode.TheVariants.{Plain, Grouped}
use Rattle.query_code.specs.declared.program.Output.{Output}
use Rattle.query_code.specs.declared.program.Parts.{Parts}
use Rattle.query_code.proofs.WorkedProgram.{counted}
use Rattle.plain_machine.specs.Finishing.{are_orderable, finish_of, ranked}
use Rattle.plain_machine.specs.PlainMachine.{Done, Fault, stand_after}
use Rattle.query_rows.specs.Row.{Row}
use Rattle.plain_machine.specs.Unread.{but_accounts, reads_accounts}
use Rattle.plain_machine.specs.WholeRun.{budget, is_going}

-- ---- rows

abbrev usd : Key
usd = record { currency = codes "USD"; lot = None }

-- an account, and a count of 10^-8 USD
abbrev cell_of : List ℕ → ℤ → Column → Value
cell_of account count column.Account = Text account
cell_of account count column.Position = Position usd count
cell_of account count c = Null

abbrev posting : List ℕ → ℤ → Row
posting account count =
    record { cell = cell_of account count; posting_entries = []; transaction_entries = [] }

abbrev cash : List ℕ
cash = codes "Assets:Cash"

abbrev opening : List ℕ
opening = codes "Equity:Open"

abbrev two_rows : List Row
two_rows = posting cash (pos 5) ∷ posting opening (negsuc 4) ∷ []

abbrev three_rows : List Row
three_rows = posting cash (pos 5) ∷ posting opening (pos 1) ∷ posting cash (negsuc 1) ∷ []

-- ---- programs

abbrev plain_output : List (List ℕ) → Output
plain_output targets =
    record {
      is_distinct = false;
      is_descending = false;
      limit = None;
      targets = targets;
      hidden =
          0;
      order = [];
    }

-- one column, of each posting that passes the filter
abbrev plain : List Constant → List Instruction → List Instruction → Parts
plain pool filter row = record {
  bounds = record { schema = First; postings = 1000000; units_digits = 20; value_digits = 28 };
  mode = Plain;
  output = plain_output (codes "a" ∷ []);
  code = record { keys = 0; aggregates = []; pool = pool; filter = filter; row = row; last = [] };
}

-- one column, of each group
abbrev grouped : ℕ → List Aggregate → List Instruction → List Instruction → Parts
grouped keys aggregates row last = record {
  bounds = record { schema = First; postings = 1000000; units_digits = 20; value_digits = 28 };
  mode = Grouped;
  output = plain_output (codes "a" ∷ []);
  code = record {
    keys = keys;
    aggregates = aggregates;
    pool = [];
    filter =
        Push push.True ∷ [];
    row = row;
    last = last;
  };
}

abbrev load_account : List Instruction
load_account = Push (push.LoadColumn 9) ∷ []

-- SELECT account
abbrev accounts : Parts
accounts = plain [] (Push push.True ∷ []) load_account

accounts_going : is_going (stand_after accounts two_rows 3) ≡ true
accounts_going = refl

accounts_done : stand_after accounts two_rows 4 ≡ Done ((Text cash ∷ []) ∷ (Text opening ∷ []) ∷ [])
accounts_done = refl

-- too few operands, where there is a row
abbrev adding : Parts
adding = plain [] (Binary binary.Add ∷ []) load_account

adding_faults : stand_after adding two_rows 1 ≡ Fault
adding_faults = refl

adding_nowhere : stand_after adding [] 0 ≡ Done []
adding_nowhere = refl

-- a sum beyond 2^127 - 1
no_places : 0 ≤ 32
no_places = omega arith

abbrev whole_number : (n : ℕ) → n < 2 ^ 127 → Constant
whole_number n fits =
    constant.Number (record { count = pos n; places = 0; narrow = no_places; in_range = fits })

most_fits : 2 ^ 127 - 1 < 2 ^ 127
most_fits = omega arith

one_fits : 1 < 2 ^ 127
one_fits = omega arith

abbrev too_large : Parts
too_large = plain
    (whole_number (2 ^ 127 - 1) most_fits ∷ whole_number 1 one_fits ∷ [])
    (Push (push.Const 0) ∷ Push (push.Const 1) ∷ Binary binary.Add ∷ Unary unary.IsNull ∷ [])
    load_account

too_large_going : is_going (stand_after too_large two_rows 2) ≡ true
too_large_going = refl

too_large_faults : stand_after too_large two_rows 3 ≡ Fault
too_large_faults = refl

-- a filter that is false or null passes nothing; one that leaves two values is at fault
passes_nothing : stand_after (plain [] (Push push.False ∷ []) load_account) two_rows 2 ≡ Done []
passes_nothing = refl

null_passes_nothing :
    stand_after (plain [] (Push (push.LoadColumn 0) ∷ []) load_account) two_rows 2 ≡ Done []
null_passes_nothing = refl

two_truths :
    stand_after (plain [] (Push push.True ∷ Push push.True ∷ []) load_account) two_rows 2 ≡ Fault
two_truths = refl

-- a jump leads on also where it isn't taken, to the end at most
jumps_to_the_end :
    stand_after (plain [] (Push push.True ∷ Jump 2 ∷ []) load_account) (posting cash (pos 5) ∷ []) 3
    ≡ Done ((Text cash ∷ []) ∷ [])
jumps_to_the_end = refl

jumps_back :
    stand_after (plain [] (Push push.True ∷ Push push.True ∷ JumpIfFalse 1 ∷ []) load_account)
    two_rows 3 ≡ Fault
jumps_back = refl

-- slots are unset at first
stores_and_loads :
    stand_after (plain [] (Push push.True ∷ StoreSlot 63 ∷ LoadSlot 63 ∷ []) load_account)
    (posting cash (pos 5) ∷ []) 4 ≡ Done ((Text cash ∷ []) ∷ [])
stores_and_loads = refl

loads_nothing : stand_after (plain [] (LoadSlot 0 ∷ []) load_account) two_rows 1 ≡ Fault
loads_nothing = refl

no_such_slot :
    stand_after (plain [] (Push push.True ∷ StoreSlot 64 ∷ []) load_account) two_rows 2 ≡ Fault
no_such_slot = refl

-- the running inventory, which a filter can't read
abbrev bag : ℤ → Value
bag count = Inventory (record { places = 8; held = record { key = usd; count = count } ∷ [] })

balances :
    stand_after (plain [] (Push push.True ∷ []) (Push (push.LoadColumn 19) ∷ [])) three_rows 6
    ≡ Done ((bag (pos 5) ∷ []) ∷ (bag (pos 6) ∷ []) ∷ (bag (pos 4) ∷ []) ∷ [])
balances = refl

balance_of_a_filter :
    stand_after (plain [] (Push (push.LoadColumn 19) ∷ []) load_account) two_rows 1 ≡ Fault
balance_of_a_filter = refl

-- SELECT count(*)
counted_going : is_going (stand_after counted three_rows 3) ≡ true
counted_going = refl

counted_done : stand_after counted three_rows 4 ≡ Done ((Number 0 (pos 3) ∷ []) ∷ [])
counted_done = refl

counted_nothing : stand_after counted [] 0 ≡ Done []
counted_nothing = refl

counted_in_time : budget counted 3 1 ≡ 4
counted_in_time = refl

-- SELECT account, count(*), with the count alone: groups stand in order of first appearance
abbrev by_account : List Aggregate → Parts
by_account aggregates = grouped 1 aggregates load_account (Push (push.LoadAggregate 0) ∷ [])

counted_by_account :
    stand_after (by_account (aggregate.CountRows ∷ [])) three_rows 8
    ≡ Done ((Number 0 (pos 2) ∷ []) ∷ (Number 0 (pos 1) ∷ []) ∷ [])
counted_by_account = refl

-- SELECT sum(position)
abbrev sum_of_positions : Parts
sum_of_positions =
    grouped 0 (aggregate.SumInventory 8 ∷ []) (Push (push.LoadColumn 17) ∷ [])
    (Push (push.LoadAggregate 0) ∷ [])

summed : stand_after sum_of_positions three_rows 7 ≡ Done ((bag (pos 4) ∷ []) ∷ [])
summed = refl

-- a sum of texts, a value more than the keys and inputs, and a column behind the last row
sum_of_texts :
    stand_after (grouped 0 (aggregate.Sum 0 ∷ []) load_account (Push (push.LoadAggregate 0) ∷ []))
    three_rows 2 ≡ Fault
sum_of_texts = refl

a_value_more :
    stand_after
    (grouped 0 (aggregate.CountRows ∷ []) load_account (Push (push.LoadAggregate 0) ∷ []))
    three_rows 2 ≡ Fault
a_value_more = refl

column_of_a_group : stand_after (grouped 1 [] load_account load_account) three_rows 7 ≡ Fault
column_of_a_group = refl

-- ---- accounts of transactions

abbrev load_accounts : List Instruction
load_accounts = Push (push.LoadColumn 21) ∷ []

doesnt_read_them : reads_accounts accounts ≡ false
doesnt_read_them = refl

filter_reads_them : reads_accounts (plain [] load_accounts load_account) ≡ true
filter_reads_them = refl

row_reads_them : reads_accounts (plain [] (Push push.True ∷ []) load_accounts) ≡ true
row_reads_them = refl

-- a program that reads them does other things without them
finds_none :
    stand_after (plain [] (Push push.True ∷ []) load_accounts)
    (but_accounts (posting cash (pos 5)) ∷ []) 2 ≡ Done ((Set [] ∷ []) ∷ [])
finds_none = refl

-- ---- final rows

-- null stands with any kind, other kinds don't stand with each other
alike : are_orderable (0 ∷ [])
    ((Number 0 (pos 1) ∷ []) ∷ (Null ∷ []) ∷ (Number 0 (pos 2) ∷ []) ∷ []) ≡ true
alike = refl

not_alike : are_orderable (0 ∷ []) ((Number 0 (pos 1) ∷ []) ∷ (Text cash ∷ []) ∷ []) ≡ false
not_alike = refl

other_decimals :
    are_orderable (0 ∷ []) ((Number 0 (pos 1) ∷ []) ∷ (Number 2 (pos 1) ∷ []) ∷ []) ≡ false
other_decimals = refl

truths : are_orderable (0 ∷ []) ((Truth true ∷ []) ∷ []) ≡ false
truths = refl

abbrev by_first : Bool → Output
by_first descending =
    record {
      is_distinct = true;
      is_descending = descending;
      limit = None;
      targets =
          codes "a" ∷ [];
      hidden = 1;
      order = 0 ∷ 1 ∷ [];
    }

abbrev pair : ℤ → ℤ → List Value
pair m n = Number 0 m ∷ Number 0 n ∷ []

-- the hidden value only orders rows
hidden_orders :
    ranked (by_first true) (pair (pos 1) (pos 9))
    ≡ record {
      shown = Number 0 (pos 1) ∷ [];
      ranks = Number 0 (pos 1) ∷ Number 0 (pos 9) ∷ [];
    }
hidden_orders = refl

-- each once, from the end of the order, and no limit
as_asked : finish_of (by_first true)
    ≡ record { is_descending = true; is_distinct = true; limit = None }
as_asked = refl
