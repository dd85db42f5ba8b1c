-- The members of a list of texts, of days or of counts of so many decimals, as values.
use Rattle.std.specs.Prelude.{ℕ, ℤ, Bool, List}
use Rattle.std.specs.Ordering.{int_eq}
use Rattle.bean_base.specs.Day.{number}
use Rattle.bean_base.specs.declared.days.Day as day
use Rattle.query_values.specs.declared.value.Value.{Value}
use Rattle.query_values.specs.declared.value.Value.TheVariants.{Number, Text, Day}

abbrev pub text_choice : List ℕ → Value
text_choice t = Text t

abbrev pub day_choice : day.Day → Value
day_choice d = Day d

abbrev pub number_choice : ℕ → ℤ → Value
number_choice places count = Number places count

abbrev pub same_day : day.Day → day.Day → Bool
same_day a b = int_eq (number a) (number b)
