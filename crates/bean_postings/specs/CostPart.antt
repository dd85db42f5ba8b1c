-- The parts of a cost, in any order, each form of a part at most once.
--
-- part = day | text | "*" | [expression] ["#" [expression]] [currency], not empty
use Rattle.std.specs.Prelude.{true, ◌&&◌, List, ℕ, Option, Some, None}
use Rattle.theory.specs.Form.{Form, made, ◌<+>◌, behind, checked, due, either, row}
use Rattle.bean_base.specs.declared.num.Num.{Num}
use Rattle.bean_lexer.specs.declared.kind.Sign.TheVariants.{Star, Hash, Comma}
use Rattle.bean_postings.specs.declared.cost_part.CostPart as parts
use Rattle.bean_postings.specs.declared.cost_part.CostPart.TheVariants.{Amount, Day, Label}
use Rattle.bean_postings.specs.declared.cost_part.CostPart.TheVariants.{NumberAlone, CurrencyAlone}
use Rattle.bean_postings.specs.declared.cost_part.CostPart.TheVariants.{Merge, Compound}
use Rattle.bean_postings.specs.declared.cost_part.CostParts as collected
use Rattle.bean_grammar.specs.declared.ranged.Ranged.{Ranged}
use Rattle.bean_grammar.specs.Amount.{amount_of, number_if_due, currency_if_due}
use Rattle.bean_grammar.specs.Lexeme.{Lexeme, Sign, begins_with_sign}
use Rattle.bean_grammar.specs.Literal.{day, text}
use Rattle.bean_grammar.specs.Ranged.{none_outside}

-- what a part without a day or a text is: of the number before a `#` or without one, what stands
-- from a `#` on, and the currency
abbrev pub number_part_of : Option (Ranged Num) → Option (Option (Ranged Num)) → Option (List ℕ)
    → Option parts.CostPart
number_part_of (Some n) None (Some c) = Some (Amount (amount_of n c))
number_part_of (Some n) None None = Some (NumberAlone (none_outside (Some n)))
number_part_of None None (Some c) = Some CurrencyAlone
number_part_of None None None = None
number_part_of n (Some m) c = Some (Compound (none_outside n && none_outside m))

abbrev pub compound_if_due : Form Lexeme (Option (Option (Ranged Num)))
compound_if_due = due (begins_with_sign Hash) (behind (Sign Hash) number_if_due)

abbrev pub itself : {A : Type 0} → A → A
itself a = a

abbrev pub number_part : Form Lexeme parts.CostPart
number_part =
    checked itself (made number_part_of <+> number_if_due <+> compound_if_due <+> currency_if_due)

abbrev pub merge : Form Lexeme parts.CostPart
merge = behind (Sign Star) (made Merge)

abbrev pub part : Form Lexeme parts.CostPart
part = either (made Day <+> day) (either (made Label <+> text) (either merge number_part))

abbrev pub no_parts : collected.CostParts
no_parts = record {
  amount = None;
  day = None;
  label = None;
  number = None;
  currency = None;
  merge = None;
  compound = None;
}

-- put where nothing stands yet
abbrev pub placed : {A : Type 0} → Option A → A → (Option A → collected.CostParts)
    → Option collected.CostParts
placed None a set = Some (set (Some a))
placed (Some b) a set = None

-- the parts with one more, if no part of its form stands among them
abbrev pub put : Option collected.CostParts → parts.CostPart → Option collected.CostParts
put None p = None
put (Some c) (Amount a) = placed c.amount a (λ x. record c { amount = x })
put (Some c) (Day d) = placed c.day d (λ x. record c { day = x })
put (Some c) (Label t) = placed c.label t (λ x. record c { label = x })
put (Some c) (NumberAlone b) = placed c.number b (λ x. record c { number = x })
put (Some c) CurrencyAlone = placed c.currency true (λ x. record c { currency = x })
put (Some c) Merge = placed c.merge true (λ x. record c { merge = x })
put (Some c) (Compound b) = placed c.compound b (λ x. record c { compound = x })

abbrev pub put_first : parts.CostPart → Option collected.CostParts
put_first p = put (Some no_parts) p

abbrev pub another_part : Form Lexeme parts.CostPart
another_part = behind (Sign Comma) part

abbrev pub row_of_parts : Form Lexeme (Option collected.CostParts)
row_of_parts = row (begins_with_sign Comma) part put_first another_part put

-- one or more parts, none of a form twice
abbrev pub cost_parts : Form Lexeme collected.CostParts
cost_parts = checked itself row_of_parts
