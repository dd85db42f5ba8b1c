-- The values of expressions at worked rows.
use Rattle.std.proofs.Common.{◌≡◌, ◌<◌, ◌≤◌, ◌^◌, ◌*◌, ℕ, pos, neg_ℤ, true, false, List, []}
use Rattle.std.proofs.Common.{◌∷◌, Some, codes, refl, arith}
use Rattle.std.specs.Str.{chars}
use Rattle.bean_base.proofs.WorkedDays.{january_2, january_3}
use Rattle.limits.specs.declared.bounds.Bounds.{Bounds}
use Rattle.limits.specs.declared.bounds.Version.TheVariants.{First}
use Rattle.bql_tree.specs.Tree.{leaf_of, one_of, two_of, call_of, Tree, node, no_trees, trees}
use Rattle.bql_tree.specs.Tree.{all_trees}
use Rattle.bql_tree.specs.declared.function.Function.{Function}
use Rattle.bql_tree.specs.declared.function.Function.TheVariants as function
use Rattle.bql_tree.specs.declared.tree.BinaryOperator.{BinaryOperator}
use Rattle.bql_tree.specs.declared.tree.BinaryOperator.TheVariants as binary
use Rattle.bql_tree.specs.declared.tree.MetadataOwner.TheVariants.{Posting, Transaction, Any}
use Rattle.bql_tree.specs.declared.tree.Leaf as leaves
use Rattle.bql_tree.specs.declared.tree.Leaf.TheVariants as leaf
use Rattle.bql_tree.specs.declared.tree.UnaryOperator.{UnaryOperator}
use Rattle.bql_tree.specs.declared.tree.UnaryOperator.TheVariants as unary
use Rattle.bql_parser.specs.Standing.{of_column, applied}
use Rattle.query_terms.specs.declared.column.Column.{Column}
use Rattle.query_terms.specs.declared.column.Column.TheVariants as column
use Rattle.query_values.specs.declared.value.Value.{Value}
use Rattle.query_values.specs.declared.value.Value.TheVariants.{Null, Truth, Number, Text, Amount}
use Rattle.query_values.specs.declared.value.Value.TheVariants.{Inventory}
use Rattle.query_rows.specs.Row.{MetaText, Row}
use Rattle.bql_meaning.specs.Meaning.{value_of}
use Rattle.bql_meaning.specs.Reading.{Reading}
use Rattle.bql_meaning.proofs.Worked.{units, minus, usd, at_100, at_110, inv, cash, posting}
use Rattle.bql_meaning.proofs.Worked.{held, bag}

abbrev widest : Bounds
widest = record { schema = First; postings = 1000000; units_digits = 20; value_digits = 28 }

-- ---- expressions

abbrev one : UnaryOperator → Tree ℕ → Tree ℕ
one op t = node 0 (one_of op) (trees t no_trees)

abbrev two : BinaryOperator → Tree ℕ → Tree ℕ → Tree ℕ
two op t u = node 0 (two_of op) (trees t (trees u no_trees))

abbrev of_leaf : leaves.Leaf → Tree ℕ
of_leaf l = node 0 (leaf_of l) no_trees

abbrev text : List ℕ → Tree ℕ
text t = of_leaf (leaf.Text t)

narrow : (p : ℕ) → p < 33 → p ≤ 32
narrow p few = omega arith

few_0 : 0 < 33
few_0 = omega arith

few_1 : 1 < 33
few_1 = omega arith

few_counts : 2014 < 2 ^ 127
few_counts = omega arith

in_range : (n : ℕ) → n < 2015 → n < 2 ^ 127
in_range n few = omega (arith, few_counts)

-- n * 10^-1, and n
abbrev tenths : (n : ℕ) → n < 2015 → Tree ℕ
tenths n few =
    of_leaf (leaf.Number (record {
      count = pos n;
      places = 1;
      narrow = narrow 1 few_1;
      in_range = in_range n few;
    }))

abbrev whole_number : (n : ℕ) → n < 2015 → Tree ℕ
whole_number n few =
    of_leaf (leaf.Number (record {
      count = pos n;
      places = 0;
      narrow = narrow 0 few_0;
      in_range = in_range n few;
    }))

few_15 : 15 < 2015
few_15 = omega arith

few_2 : 2 < 2015
few_2 = omega arith

few_2014 : 2014 < 2015
few_2014 = omega arith

-- ---- at a posting

-- -1000 USD of cash, with a running inventory of 10 HOOL besides
abbrev here : Reading
here = record {
  row = posting january_2 (codes "Buy") cash usd (minus 1000);
  balance = bag (held at_100 (units 10) ∷ held usd (minus 1000) ∷ []);
}

abbrev at_posting : Tree ℕ → Value
at_posting t = value_of widest (here ∷ []) t

-- number + 1.5 is -998.5, and number * 2 is -2000
sum : at_posting (two binary.Plus (of_column column.Number) (tenths 15 few_15))
    ≡ Number 8 (neg_ℤ (pos 99850000000))
sum = refl

product : at_posting (two binary.Times (of_column column.Number) (whole_number 2 few_2))
    ≡ Number 8 (minus 2000)
product = refl

-- cost_number + 1.5 is null
sum_with_null : at_posting (two binary.Plus (of_column column.CostNumber) (tenths 15 few_15)) ≡ Null
sum_with_null = refl

-- payee = NULL, cost_number != NULL, payee < 'a', NOT payee ~ 'x'
abbrev null : Tree ℕ
null = of_leaf leaf.Null

is_null : at_posting (two binary.Equal (of_column column.Payee) null) ≡ Truth true
is_null = refl

isnt_null : at_posting (two binary.NotEqual null (of_column column.CostNumber)) ≡ Truth false
isnt_null = refl

less : at_posting (two binary.Less (of_column column.Payee) (text (codes "a"))) ≡ Truth false
less = refl

no_match : at_posting (one unary.Not (one (unary.Matches (codes "x")) (of_column column.Payee)))
    ≡ Truth true
no_match = refl

-- null is false to OR and AND: payee OR TRUE, payee AND TRUE, which have no type
or_true : at_posting (two binary.Or (of_column column.Payee) (of_leaf (leaf.Truth true)))
    ≡ Truth true
or_true = refl

and_true : at_posting (two binary.And (of_column column.Payee) (of_leaf (leaf.Truth true)))
    ≡ Truth false
and_true = refl

-- account = 'Assets:Cash'
same_account : at_posting (two binary.Equal (of_column column.Account) (text cash)) ≡ Truth true
same_account = refl

-- year IN (2, 2014), payee IN ('', 'a')
among : at_posting (node 0 (call_of function.OneOf) (all_trees
    (of_column column.Year ∷ whole_number 2 few_2 ∷ whole_number 2014 few_2014 ∷ [])))
    ≡ Truth true
among = refl

null_among : at_posting (node 0 (call_of function.OneOf) (all_trees
    (of_column column.Payee ∷ text [] ∷ text (codes "a") ∷ []))) ≡ Truth false
null_among = refl

-- 'a' IN tags
tagged : at_posting (two binary.In (text (codes "a")) (of_column column.Tags)) ≡ Truth false
tagged = refl

-- root(account, 1), parent(account), leaf(account), length(account)
root : at_posting (one (unary.Root 1) (of_column column.Account)) ≡ Text (codes "Assets")
root = refl

parent : at_posting (applied function.Parent (of_column column.Account)) ≡ Text (codes "Assets")
parent = refl

leaf_name : at_posting (applied function.Leaf (of_column column.Account)) ≡ Text (codes "Cash")
leaf_name = refl

long : at_posting (applied function.Length (of_column column.Account)) ≡ Number 0 (pos 11)
unfolding chars
long = refl

-- cost(position), cost(balance), abs(number), -number, number(position), currency(position)
cost : at_posting (applied function.Cost (of_column column.Position))
    ≡ Amount 16 (codes "USD") (neg_ℤ (pos (1000 * 10 ^ 16)))
cost = refl

cost_of_balance : at_posting (applied function.Cost (of_column column.Balance))
    ≡ Inventory (record { places = 16; held = [] })
cost_of_balance = refl

abs : at_posting (applied function.Abs (of_column column.Number)) ≡ Number 8 (units 1000)
abs = refl

minus_number : at_posting (one unary.Minus (of_column column.Number)) ≡ Number 8 (units 1000)
minus_number = refl

number_of : at_posting (applied function.Number (of_column column.Position)) ≡ Number 8 (minus 1000)
number_of = refl

currency_of : at_posting (applied function.Currency (of_column column.Position))
    ≡ Text (codes "USD")
currency_of = refl

-- day(date)
day_of : at_posting (applied function.Day (of_column column.Date)) ≡ Number 0 (pos 2)
day_of = refl

-- ---- metadata

-- the posting has a: 1, the transaction a: 2 and b: 3
abbrev item : List ℕ → List ℕ → MetaText
item key text = record { key = key; text = Some text }

abbrev with_entries : Reading
with_entries = record {
  row = record {
    cell = λ c. Null;
    posting_entries = item (codes "a") (codes "1") ∷ [];
    transaction_entries = item (codes "a") (codes "2") ∷ item (codes "b") (codes "3") ∷ [];
  };
  balance = Null;
}

abbrev meta : leaves.Leaf → Value
meta l = value_of widest (with_entries ∷ []) (of_leaf l)

own : meta (leaf.Meta Posting (codes "a")) ≡ Text (codes "1")
own = refl

no_own : meta (leaf.Meta Posting (codes "b")) ≡ Null
no_own = refl

entry : meta (leaf.Meta Transaction (codes "a")) ≡ Text (codes "2")
entry = refl

any_own : meta (leaf.Meta Any (codes "a")) ≡ Text (codes "1")
any_own = refl

any_entry : meta (leaf.Meta Any (codes "b")) ≡ Text (codes "3")
any_entry = refl

-- ---- over a group: 10 HOOL at cost, -1000 USD, 5 HOOL at cost

abbrev reading : Row → Reading
reading r = record { row = r; balance = Null }

abbrev group : List Reading
group = reading (posting january_2 (codes "Buy") inv at_100 (units 10))
    ∷ reading (posting january_2 (codes "Buy") cash usd (minus 1000))
    ∷ reading (posting january_3 (codes "Sell") inv at_110 (units 5)) ∷ []

abbrev over : List Reading → Tree ℕ → Value
over rows t = value_of widest rows t

abbrev of_group : Function → Column → Value
of_group f c = over group (applied f (of_column c))

rows : over group (of_leaf leaf.Rows) ≡ Number 0 (pos 3)
rows = refl

costs : of_group function.Count column.CostNumber ≡ Number 0 (pos 2)
costs = refl

sum_of_costs : of_group function.Sum column.CostNumber ≡ Number 8 (units 210)
sum_of_costs = refl

sum_of_positions : of_group function.Sum column.Position
    ≡ bag (held at_100 (units 10) ∷ held usd (minus 1000) ∷ held at_110 (units 5) ∷ [])
sum_of_positions = refl

-- sum(number) + 1.5
sum_and_more : over group (two binary.Plus (applied function.Sum (of_column column.Number))
    (tenths 15 few_15)) ≡ Number 8 (neg_ℤ (pos 98350000000))
sum_and_more = refl

-- sum(number * 1.5): nine decimals
sum_of_products : over group (applied function.Sum
    (two binary.Times (of_column column.Number) (tenths 15 few_15)))
    ≡ Number 9 (neg_ℤ (pos 1477500000000))
sum_of_products = refl

first_cost : of_group function.First column.CostNumber ≡ Number 8 (units 100)
first_cost = refl

last_narration : of_group function.Last column.Narration ≡ Text (codes "Sell")
last_narration = refl

least_account : of_group function.Min column.Account ≡ Text cash
least_account = refl

greatest_number : of_group function.Max column.Number ≡ Number 8 (units 10)
greatest_number = refl

-- columns are those of the first row
first_account : over group (of_column column.Account) ≡ Text inv
first_account = refl

-- ---- over no values: sum(cost_number), sum(length(payee)), first(payee), count(payee), min(payee)

abbrev nothing : List Reading
nothing = reading (posting january_2 (codes "Buy") cash usd (minus 1000)) ∷ []

sum_of_nothing : over nothing (applied function.Sum (of_column column.CostNumber))
    ≡ Number 8 (pos 0)
sum_of_nothing = refl

whole_sum_of_nothing :
    over nothing (applied function.Sum (applied function.Length (of_column column.Payee)))
    ≡ Number 0 (pos 0)
whole_sum_of_nothing = refl

first_of_nothing : over nothing (applied function.First (of_column column.Payee)) ≡ Null
first_of_nothing = refl

count_of_nothing : over nothing (applied function.Count (of_column column.Payee)) ≡ Number 0 (pos 0)
count_of_nothing = refl

least_of_nothing : over nothing (applied function.Min (of_column column.Payee)) ≡ Null
least_of_nothing = refl
