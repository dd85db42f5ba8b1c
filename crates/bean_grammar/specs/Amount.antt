-- Amounts, whole or with parts that aren't written.
use Rattle.std.specs.Prelude.{ℕ, List, Option}
use Rattle.theory.specs.Form.{Form, word, made, ◌<+>◌, due}
use Rattle.bean_base.specs.declared.amounts.Amount as amounts
use Rattle.bean_base.specs.declared.num.Num.{Num}
use Rattle.bean_grammar.specs.declared.amount.AmountParts.{AmountParts}
use Rattle.bean_grammar.specs.declared.ranged.Ranged.{Ranged}
use Rattle.bean_grammar.specs.Expression.{expression, begins_with_expression}
use Rattle.bean_grammar.specs.Lexeme.{Lexeme, Currency, begins_with_currency}
use Rattle.bean_grammar.specs.Ranged.{ranged_map}

abbrev pub amount_of : Ranged Num → List ℕ → Ranged amounts.Amount
amount_of number currency = ranged_map (λ n. record { number = n; currency = currency }) number

-- expression currency
abbrev pub amount : Form Lexeme (Ranged amounts.Amount)
amount = made amount_of <+> expression <+> word Currency

abbrev pub amount_parts_of : Option (Ranged Num) → Option (List ℕ) → AmountParts
amount_parts_of number currency = record { number = number; currency = currency }

abbrev pub number_if_due : Form Lexeme (Option (Ranged Num))
number_if_due = due begins_with_expression expression

abbrev pub currency_if_due : Form Lexeme (Option (List ℕ))
currency_if_due = due begins_with_currency (word Currency)

-- [expression] [currency]
abbrev pub amount_parts : Form Lexeme AmountParts
amount_parts = made amount_parts_of <+> number_if_due <+> currency_if_due
