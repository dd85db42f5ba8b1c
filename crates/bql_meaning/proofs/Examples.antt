-- What worked queries answer over the rows of a worked ledger.
use Rattle.std.proofs.Common.{◌≡◌, ◌≤◌, ◌<◌, ◌*ℤ◌, ◌^◌, ℕ, ℤ, pos, Bool, true, false, List, []}
use Rattle.std.proofs.Common.{◌∷◌, map}
use Rattle.std.proofs.Common.{Option, Some, None, codes, length, refl, arith}
use Rattle.jiff_core.specs.Calendar.{days_from_civil, day_count, days_of_years, days_of_months}
use Rattle.bean_base.proofs.WorkedDays.{january_2, january_3}
use Rattle.limits.specs.declared.bounds.Bounds.{Bounds}
use Rattle.bean_base.specs.declared.days.Day as day
use Rattle.limits.specs.declared.bounds.Version.TheVariants.{First}
use Rattle.bean_lots.specs.declared.lot.Key.{Key}
use Rattle.bql_grammar.specs.Clause as clause
use Rattle.bql_parser.specs.Asked.{Target, Item, target_item, tree_item}
use Rattle.bql_parser.specs.declared.standing.Valuation.TheVariants as valuation
use Rattle.bql_tree.specs.Tree.{leaf_of, one_of, two_of, Tree, node, no_trees, trees}
use Rattle.bql_tree.specs.declared.function.Function.TheVariants as function
use Rattle.bql_tree.specs.declared.tree.BinaryOperator.{BinaryOperator}
use Rattle.bql_tree.specs.declared.tree.BinaryOperator.TheVariants as binary
use Rattle.bql_tree.specs.declared.tree.Leaf.TheVariants as leaf
use Rattle.bql_tree.specs.declared.tree.UnaryOperator.TheVariants as unary
use Rattle.bql_parser.specs.Standing as standing
use Rattle.bql_parser.specs.Standing.{of_column, applied}
use Rattle.query_terms.specs.declared.column.Column.TheVariants as column
use Rattle.query_values.specs.declared.value.Value.{Value}
use Rattle.query_values.specs.declared.value.Value.TheVariants.{Null, Truth, Number, Text, Day}
use Rattle.query_values.specs.declared.value.Value.TheVariants.{Amount, Position, Inventory}
use Rattle.query_values.specs.Pattern.{is_found}
use Rattle.query_rows.specs.Row.{Row}
use Rattle.bql_meaning.proofs.AnswerFacts.{answer_of}
use Rattle.bql_meaning.proofs.Worked.{units, minus, usd, at_100, at_110, inv, cash, gain, ledger}
use Rattle.bql_meaning.proofs.Worked.{february_1, held, bag, posting}

abbrev widest : Bounds
widest = record { schema = First; postings = 1000000; units_digits = 20; value_digits = 28 }

-- ---- queries

abbrev of_text : List ℕ → Tree ℕ
of_text t = node 0 (leaf_of (leaf.Text t)) no_trees

abbrev two : BinaryOperator → Tree ℕ → Tree ℕ → Tree ℕ
two op t u = node 0 (two_of op) (trees t (trees u no_trees))

abbrev target : Tree ℕ → Target
target t = record { name = []; tree = t }

abbrev item : Tree ℕ → Item
item t = record { place = 0; kind = tree_item t }

abbrev named : ℕ → Item
named index = record { place = 0; kind = target_item index }

abbrev unordered : clause.Order Item
unordered = record { items = []; descending = false }

-- SELECT targets WHERE filter GROUP BY group
abbrev asked : List (Tree ℕ) → Option (Tree ℕ) → Option (List Item)
    → clause.Select Target (Tree ℕ) Item
asked ts filter group = record {
  distinct = false;
  targets = map target ts;
  filters = record { from = None; filter = filter };
  group = group;
  order = unordered;
  limit = None;
}

-- the same in order, and no more than so many, each once
abbrev ordered : Bool → Bool → List Item → Option ℕ → clause.Select Target (Tree ℕ) Item
    → clause.Select Target (Tree ℕ) Item
ordered distinct descending items limit s = record s {
  distinct = distinct;
  order = record { items = items; descending = descending };
  limit = limit;
}

abbrev answer : clause.Select Target (Tree ℕ) Item → List Row → List (List Value)
answer s rows = answer_of widest s rows

abbrev of_cash : Tree ℕ
of_cash = two binary.Equal (of_column column.Account) (of_text cash)

-- ---- postings

-- SELECT account, balance WHERE account = 'Assets:Cash': what doesn't pass is in no balance
balances_of_cash :
    answer
    (asked (of_column column.Account ∷ of_column column.Balance ∷ []) (Some of_cash) None) ledger
    ≡ ((Text cash ∷ bag (held usd (minus 1000) ∷ []) ∷ [])
    ∷ (Text cash ∷ bag (held usd (minus 1550) ∷ []) ∷ [])
    ∷ (Text cash ∷ bag (held usd (minus 250) ∷ []) ∷ []) ∷ [])
balances_of_cash = refl

-- SELECT account WHERE payee < 'a': null is less than nothing
nothing_passes :
    answer
    (asked (of_column column.Account ∷ [])
    (Some (two binary.Less (of_column column.Payee) (of_text (codes "a")))) None) ledger ≡ []
nothing_passes = refl

-- SELECT account, position WHERE date >= 2014-02-01
abbrev since_february : clause.Select Target (Tree ℕ) Item
since_february =
    asked (of_column column.Account ∷ of_column column.Position ∷ [])
    (Some (two binary.GreaterOrEqual (of_column column.Date)
    (node 0 (leaf_of (leaf.Day february_1)) no_trees))) None

sold_since_february :
    answer since_february ledger
    ≡ ((Text inv ∷ Position at_100 (minus 10) ∷ []) ∷ (Text inv ∷ Position at_110 (minus 2) ∷ [])
    ∷ (Text cash ∷ Position usd (units 1300) ∷ [])
    ∷ (Text gain ∷ Position usd (minus 80) ∷ []) ∷ [])
unfolding days_from_civil day_count days_of_years days_of_months
sold_since_february = refl

-- SELECT payee = NULL AS a, payee < 'a' AS b, NOT payee ~ 'x' AS c LIMIT 1
abbrev of_payee : clause.Select Target (Tree ℕ) Item
of_payee =
    ordered false false [] (Some 1)
    (asked
    (two binary.Equal (of_column column.Payee) (node 0 (leaf_of leaf.Null) no_trees)
    ∷ two binary.Less (of_column column.Payee) (of_text (codes "a"))
    ∷ node 0 (one_of unary.Not)
    (trees (node 0 (one_of (unary.Matches (codes "x"))) (trees (of_column column.Payee) no_trees))
    no_trees) ∷ []) None None)

without_payee : answer of_payee ledger ≡ (Truth true ∷ Truth false ∷ Truth true ∷ []) ∷ []
without_payee = refl

-- SELECT narration, account ORDER BY narration DESC LIMIT 3
abbrev by_narration : Bool → clause.Select Target (Tree ℕ) Item
by_narration distinct =
    ordered distinct true (named 0 ∷ []) (Some 3)
    (asked (of_column column.Narration ∷ of_column column.Account ∷ []) None None)

last_narrations :
    answer (by_narration false) ledger
    ≡ ((Text (codes "Sell") ∷ Text inv ∷ []) ∷ (Text (codes "Sell") ∷ Text inv ∷ [])
    ∷ (Text (codes "Sell") ∷ Text cash ∷ []) ∷ [])
last_narrations = refl

-- the same with other limits
abbrev limited : ℕ → clause.Select Target (Tree ℕ) Item
limited most =
    ordered false true (named 0 ∷ []) (Some most)
    (asked (of_column column.Narration ∷ of_column column.Account ∷ []) None None)

none_of_all : answer (limited 0) ledger ≡ []
none_of_all = refl

all_of_all : length (answer (limited 99) ledger) ≡ 8
all_of_all = refl

-- the first three with DISTINCT
distinct_narrations :
    answer (by_narration true) ledger
    ≡ ((Text (codes "Sell") ∷ Text inv ∷ []) ∷ (Text (codes "Sell") ∷ Text cash ∷ [])
    ∷ (Text (codes "Sell") ∷ Text gain ∷ []) ∷ [])
distinct_narrations = refl

-- SELECT DISTINCT account ORDER BY number: what orders rows isn't shown
by_number :
    answer
    (ordered true false (item (of_column column.Number) ∷ []) None
    (asked (of_column column.Account ∷ []) None None)) ledger
    ≡ ((Text cash ∷ []) ∷ (Text gain ∷ []) ∷ (Text inv ∷ []) ∷ [])
by_number = refl

-- ---- groups

-- SELECT account, sum(position)
sums_of_accounts :
    answer
    (asked (of_column column.Account ∷ applied function.Sum (of_column column.Position) ∷ []) None
    None) ledger
    ≡ ((Text inv ∷ bag (held at_110 (units 3) ∷ []) ∷ [])
    ∷ (Text cash ∷ bag (held usd (minus 250) ∷ []) ∷ [])
    ∷ (Text gain ∷ bag (held usd (minus 80) ∷ []) ∷ []) ∷ [])
unfolding days_from_civil day_count days_of_years days_of_months
sums_of_accounts = refl

-- SELECT month, sum(number) WHERE account = 'Assets:Cash' GROUP BY month ORDER BY sum(number) DESC
sums_of_months :
    answer
    (ordered false true (item (applied function.Sum (of_column column.Number)) ∷ []) None
    (asked (of_column column.Month ∷ applied function.Sum (of_column column.Number) ∷ [])
    (Some of_cash) (Some (item (of_column column.Month) ∷ [])))) ledger
    ≡ ((Number 0 (pos 2) ∷ Number 8 (units 1300) ∷ [])
    ∷ (Number 0 (pos 1) ∷ Number 8 (minus 1550) ∷ []) ∷ [])
sums_of_months = refl

-- SELECT count(*)
abbrev counted : clause.Select Target (Tree ℕ) Item
counted = asked (node 0 (leaf_of leaf.Rows) no_trees ∷ []) None None

counted_all : answer counted ledger ≡ (Number 0 (pos 8) ∷ []) ∷ []
counted_all = refl

counted_none : answer counted [] ≡ []
counted_none = refl

-- SELECT count(*), sum(cost_number) WHERE account = 'Income:Gain': a sum of no values is 0
abbrev of_gain : Tree ℕ
of_gain = two binary.Equal (of_column column.Account) (of_text gain)

abbrev totals : Tree ℕ → clause.Select Target (Tree ℕ) Item
totals filter =
    asked
    (node 0 (leaf_of leaf.Rows) no_trees ∷ applied function.Sum (of_column column.CostNumber) ∷ [])
    (Some filter) None

no_values : answer (totals of_gain) ledger ≡ ((Number 0 (pos 1) ∷ Number 8 (pos 0) ∷ []) ∷ [])
no_values = refl

-- the same over no rows: there is no group
no_rows : answer (totals of_gain) [] ≡ []
no_rows = refl

none_pass :
    answer (totals (two binary.Equal (of_column column.Account) (of_text []))) ledger ≡ []
none_pass = refl

-- SELECT DISTINCT month GROUP BY account, month: rows are told by what they show
months :
    answer
    (ordered true false [] None
    (asked (of_column column.Month ∷ []) None
    (Some (item (of_column column.Account) ∷ named 0 ∷ [])))) ledger
    ≡ ((Number 0 (pos 1) ∷ []) ∷ (Number 0 (pos 2) ∷ []) ∷ [])
months = refl

-- ---- JOURNAL and BALANCES

abbrev no_filters : clause.Filters (Tree ℕ)
no_filters = record { from = None; filter = None }

abbrev at_cost : ℤ → Value
at_cost n = Inventory (record { places = 16; held = held usd (n *ℤ pos (10 ^ 8)) ∷ [] })

abbrev hool : Key
hool = record { currency = codes "HOOL"; lot = None }

two_fit : 2 < 2 ^ 127
two_fit = omega arith

no_places : 0 ≤ 32
no_places = omega arith

abbrev of_february : Tree ℕ
of_february = two binary.Equal (of_column column.Month) (node 0 (leaf_of (leaf.Number (record {
  count = pos 2;
  places = 0;
  narrow = no_places;
  in_range = two_fit;
}))) no_trees)

-- BALANCES: the accounts stand by their roots and then by their names
balances :
    answer_of widest (standing.balances None no_filters) ledger
    ≡ ((Text cash ∷ bag (held usd (minus 250) ∷ []) ∷ [])
    ∷ (Text inv ∷ bag (held at_110 (units 3) ∷ []) ∷ [])
    ∷ (Text gain ∷ bag (held usd (minus 80) ∷ []) ∷ []) ∷ [])
unfolding days_from_civil day_count days_of_years days_of_months
balances = refl

-- BALANCES AT cost
balances_at_cost :
    answer_of widest (standing.balances (Some valuation.Cost) no_filters) ledger
    ≡ (Text cash ∷ at_cost (minus 250) ∷ []) ∷ (Text inv ∷ at_cost (units 330) ∷ [])
    ∷ (Text gain ∷ at_cost (minus 80) ∷ []) ∷ []
balances_at_cost = refl

-- JOURNAL AT units FROM month = 2
abbrev sold : List ℕ → Value → Value → List Value
sold account units balance =
    Day february_1 ∷ Text (codes "*") ∷ Null ∷ Text (codes "Sell") ∷ Text account ∷ units
    ∷ balance ∷ []

abbrev some_units : List ℕ → ℤ → Value
some_units currency n = Amount 8 currency n

journal :
    answer_of widest
    (standing.journal None (Some valuation.Units) (Some of_february))
    ledger
    ≡ sold inv (some_units (codes "HOOL") (minus 10)) (bag (held hool (minus 10) ∷ []))
    ∷ sold inv (some_units (codes "HOOL") (minus 2)) (bag (held hool (minus 12) ∷ []))
    ∷ sold cash (some_units (codes "USD") (units 1300))
    (bag (held hool (minus 12) ∷ held usd (units 1300) ∷ []))
    ∷ sold gain (some_units (codes "USD") (minus 80))
    (bag (held hool (minus 12) ∷ held usd (units 1220) ∷ [])) ∷ []
journal = refl

-- JOURNAL 'CASH', whose pattern is found in one account alone
abbrev of_january : day.Day → ℤ → ℤ → List Value
of_january d count balance =
    Day d ∷ Text (codes "*") ∷ Null ∷ Text (codes "Buy") ∷ Text cash ∷ Position usd count
    ∷ bag (held usd balance ∷ []) ∷ []

journal_of_cash :
    (pattern : List ℕ) → is_found pattern cash ≡ true → is_found pattern inv ≡ false
    → is_found pattern gain ≡ false
    → answer_of widest (standing.journal (Some pattern) None None)
    ledger
    ≡ of_january january_2 (minus 1000) (minus 1000)
    ∷ of_january january_3 (minus 550) (minus 1550)
    ∷ sold cash (Position usd (units 1300)) (bag (held usd (minus 250) ∷ [])) ∷ []
journal_of_cash pattern in_cash in_inv in_gain = rw (in_cash, in_inv, in_gain) refl

-- BALANCES by roots: liabilities stand before expenses
abbrev spent : List Row
spent = posting february_1 (codes "Food") (codes "Expenses:Food") usd (units 5)
    ∷ posting february_1 (codes "Food") (codes "Liabilities:Card") usd (minus 3)
    ∷ posting february_1 (codes "Food") cash usd (minus 2) ∷ []

by_roots :
    answer_of widest (standing.balances None no_filters) spent
    ≡ (Text cash ∷ bag (held usd (minus 2) ∷ []) ∷ [])
    ∷ (Text (codes "Liabilities:Card") ∷ bag (held usd (minus 3) ∷ []) ∷ [])
    ∷ (Text (codes "Expenses:Food") ∷ bag (held usd (units 5) ∷ []) ∷ []) ∷ []
by_roots = refl
