-- The operations at worked values.
use Rattle.std.proofs.Common.{◌≡◌, ◌^◌, ◌-◌, ℕ, pos, negsuc, neg_ℤ, true, false, [], ◌∷◌, ◌++◌}
use Rattle.std.proofs.Common.{Option, Some, None, codes, refl}
use Rattle.std.specs.Str.{chars}
use Rattle.bean_base.proofs.WorkedDays.{january_2, january_3, january_2_number, january_3_number}
use Rattle.query_values.specs.Held.{checked}
use Rattle.query_values.specs.Operand.{may_unary, may_binary}
use Rattle.query_values.specs.Operation.{unary_value, binary_value}
use Rattle.query_values.specs.Unary as unary
use Rattle.query_values.specs.declared.operation.Binary.{Binary}
use Rattle.query_values.specs.declared.operation.Binary.TheVariants as binary
use Rattle.query_values.specs.declared.value.Value.{Value}
use Rattle.query_values.specs.declared.value.Value.TheVariants.{Null, Truth, Number, Text, Day, Set}
use Rattle.query_values.specs.declared.value.Value.TheVariants.{Amount}

-- what a machine has of an operation: the value where the operation may be applied and the value is
-- held
abbrev one : unary.Unary → Value → Option Value
one op x = checked (may_unary op x) (unary_value op x)

abbrev two : Binary → Value → Value → Option Value
two op x y = checked (may_binary op x y) (binary_value op x y)

-- the greatest count
abbrev most : ℕ
most = 2 ^ 127 - 1

abbrev a_text : Value
a_text = Text (codes "a")

-- sums, differences and products
sum : two binary.Add (Number 2 (pos 150)) (Number 2 (negsuc 49)) ≡ Some (Number 2 (pos 100))
sum = refl

sum_of_null : two binary.Add Null (Number 2 (pos 1)) ≡ Some Null
sum_of_null = refl

sum_with_null : two binary.Add (Number 2 (pos 1)) Null ≡ Some Null
sum_with_null = refl

sum_of_nulls : two binary.Add Null Null ≡ Some Null
sum_of_nulls = refl

sum_of_other_decimals : two binary.Add (Number 2 (pos 1)) (Number 3 (pos 1)) ≡ None
sum_of_other_decimals = refl

sum_of_null_and_text : two binary.Add Null a_text ≡ None
sum_of_null_and_text = refl

too_large_a_sum : two binary.Add (Number 0 (pos most)) (Number 0 (pos 1)) ≡ None
too_large_a_sum = refl

greatest_sum :
    two binary.Add (Number 0 (pos (most - 1))) (Number 0 (pos 1)) ≡ Some (Number 0 (pos most))
greatest_sum = refl

least_difference :
    two binary.Sub (Number 0 (pos 0)) (Number 0 (pos most)) ≡ Some (Number 0 (neg_ℤ (pos most)))
least_difference = refl

too_small_a_difference : two binary.Sub (Number 0 (neg_ℤ (pos most))) (Number 0 (pos 1)) ≡ None
too_small_a_difference = refl

product : two binary.Mul (Number 2 (pos 150)) (Number 1 (negsuc 19)) ≡ Some (Number 3 (negsuc 2999))
product = refl

product_of_null : two binary.Mul Null (Number 1 (pos 1)) ≡ Some Null
product_of_null = refl

too_many_decimals : two binary.Mul (Number 17 (pos 1)) (Number 16 (pos 1)) ≡ None
too_many_decimals = refl

-- decimals and signs
more_decimals : one (unary.Align 4) (Number 2 (negsuc 149)) ≡ Some (Number 4 (negsuc 14999))
more_decimals = refl

fewer_decimals : one (unary.Align 1) (Number 2 (pos 150)) ≡ None
fewer_decimals = refl

decimals_of_null : one (unary.Align 4) Null ≡ Some Null
decimals_of_null = refl

too_large_with_decimals : one (unary.Align 1) (Number 0 (pos most)) ≡ None
too_large_with_decimals = refl

other_sign : one unary.Neg (Number 0 (pos most)) ≡ Some (Number 0 (neg_ℤ (pos most)))
other_sign = refl

without_sign : one unary.Abs (Number 0 (neg_ℤ (pos most))) ≡ Some (Number 0 (pos most))
without_sign = refl

without_sign_of_an_amount : one unary.Abs (Amount 0 (codes "USD") (pos 1)) ≡ None
without_sign_of_an_amount = refl

-- comparisons
null_is_null : two binary.Equal Null Null ≡ Some (Truth true)
null_is_null = refl

null_is_no_number : two binary.Equal Null (Number 0 (pos 0)) ≡ Some (Truth false)
null_is_no_number = refl

no_number_is_null : two binary.NotEqual (Number 0 (pos 0)) Null ≡ Some (Truth true)
no_number_is_null = refl

truths : two binary.Equal (Truth false) (Truth false) ≡ Some (Truth true)
truths = refl

truths_and_null : two binary.Less Null (Truth true) ≡ None
truths_and_null = refl

equal_numbers : two binary.Equal (Number 2 (pos 10)) (Number 2 (pos 10)) ≡ Some (Truth true)
equal_numbers = refl

equal_days : two binary.Equal (Day january_2) (Day january_2) ≡ Some (Truth true)
equal_days = rw january_2_number refl

sets_are_not_compared : two binary.Equal (Set []) (Set []) ≡ None
sets_are_not_compared = refl

kinds_are_not_compared : two binary.Equal (Number 0 (pos 0)) a_text ≡ None
kinds_are_not_compared = refl

less : two binary.Less (Number 0 (negsuc 0)) (Number 0 (pos 0)) ≡ Some (Truth true)
less = refl

nothing_is_less_than_null : two binary.Less Null (Number 0 (pos 0)) ≡ Some (Truth false)
nothing_is_less_than_null = refl

null_is_not_at_most_null : two binary.AtMost Null Null ≡ Some (Truth false)
null_is_not_at_most_null = refl

at_most_itself : two binary.AtMost (Number 0 (pos 1)) (Number 0 (pos 1)) ≡ Some (Truth true)
at_most_itself = refl

at_least_null : two binary.AtLeast (Number 0 (pos 1)) Null ≡ Some (Truth false)
at_least_null = refl

-- by bytes: a capital before a small letter, a front before the whole, ASCII before the rest
capitals_first : two binary.Less (Text (codes "B")) a_text ≡ Some (Truth true)
capitals_first = refl

fronts_first : two binary.Less a_text (Text (codes "ab")) ≡ Some (Truth true)
fronts_first = refl

past_ascii_last : two binary.Greater (Text (195 ∷ 169 ∷ [])) (Text (codes "z")) ≡ Some (Truth true)
past_ascii_last = refl

earlier_days_first : two binary.Less (Day january_2) (Day january_3) ≡ Some (Truth true)
earlier_days_first = rw (january_2_number, january_3_number) refl

-- truth
not_null : one unary.Not Null ≡ Some (Truth true)
not_null = refl

not_true : one unary.Not (Truth true) ≡ Some (Truth false)
not_true = refl

not_of_a_number : one unary.Not (Number 0 (pos 0)) ≡ None
not_of_a_number = refl

null_is : one unary.IsNull Null ≡ Some (Truth true)
null_is = refl

a_set_is_not_null : one unary.IsNull (Set []) ≡ Some (Truth false)
a_set_is_not_null = refl

-- sets and lists
abbrev tags : Value
tags = Set (codes "a" ∷ codes "b" ∷ [])

in_set : two binary.InSet a_text tags ≡ Some (Truth true)
in_set = refl

not_in_set : two binary.InSet (Text (codes "c")) tags ≡ Some (Truth false)
not_in_set = refl

null_in_set : two binary.InSet Null tags ≡ Some (Truth false)
null_in_set = refl

in_no_set : two binary.InSet a_text Null ≡ Some (Truth false)
in_no_set = refl

in_list :
    one (unary.InList (Number 2 (pos 5) ∷ Number 2 (pos 7) ∷ [])) (Number 2 (pos 7))
    ≡ Some (Truth true)
in_list = refl

null_in_list : one (unary.InList (Number 2 (pos 5) ∷ [])) Null ≡ Some (Truth false)
null_in_list = refl

in_list_of_other_decimals : one (unary.InList (Number 2 (pos 5) ∷ [])) (Number 3 (pos 50)) ≡ None
in_list_of_other_decimals = refl

-- days and accounts
year : one unary.Year (Day january_2) ≡ Some (Number 0 (pos 2014))
year = refl

month_of_null : one unary.Month Null ≡ Some Null
month_of_null = refl

-- Assets:É:Cash
abbrev account : Value
account = Text (codes "Assets:" ++ 195 ∷ 137 ∷ codes ":Cash")

root_of_two : one (unary.Root 2) account ≡ Some (Text (codes "Assets:" ++ 195 ∷ 137 ∷ []))
root_of_two = refl

root_of_many : one (unary.Root 255) account ≡ Some account
root_of_many = refl

parent : one unary.Parent account ≡ Some (Text (codes "Assets:" ++ 195 ∷ 137 ∷ []))
parent = refl

no_parent : one unary.Parent a_text ≡ Some (Text [])
no_parent = refl

leaf : one unary.Leaf account ≡ Some (Text (codes "Cash"))
leaf = refl

leaf_of_one : one unary.Leaf a_text ≡ Some a_text
leaf_of_one = refl

rank : one unary.RootRank (Text (codes "Equity:Open")) ≡ Some (Number 0 (pos 2))
rank = refl

rank_of_another : one unary.RootRank a_text ≡ Some (Number 0 (pos 5))
rank_of_another = refl

-- lengths count characters and members
length : one unary.Length account ≡ Some (Number 0 (pos 13))
unfolding chars
length = refl

length_of_set : one unary.Length tags ≡ Some (Number 0 (pos 2))
length_of_set = refl

length_of_a_number : one unary.Length (Number 0 (pos 0)) ≡ None
length_of_a_number = refl
