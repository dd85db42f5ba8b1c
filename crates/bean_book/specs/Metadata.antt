-- Metadata as texts.
use Rattle.std.specs.Prelude.{ℕ, List, ◌++◌, Bool, true, false, codes, map, Option, Some, None}
use Rattle.bean_base.specs.declared.amounts.Amount.{Amount}
use Rattle.bean_base.specs.declared.num.Num.{Num}
use Rattle.bean_grammar.specs.declared.metadata.MetaEntry.{MetaEntry}
use Rattle.bean_grammar.specs.declared.metadata.Value.{Value}
use Rattle.bean_grammar.specs.declared.metadata.Value.TheVariants as value
use Rattle.posting_entries.specs.declared.metadata.MetaItem.{MetaItem}
use Rattle.number_texts.specs.Digits.{day_text, number_text}

abbrev pub truth_text : Bool → List ℕ
truth_text true = codes "TRUE"
truth_text false = codes "FALSE"

-- a number with the decimals that it is written with
abbrev pub num_text : Num → List ℕ
num_text n = number_text n.count n.places n.places

abbrev pub amount_text : Amount → List ℕ
amount_text a = num_text a.number ++ codes " " ++ a.currency

-- a value as a text, where it is something
abbrev pub text_of : Value → Option (List ℕ)
text_of value.Nothing = None
text_of (value.Text text) = Some text
text_of (value.Account account) = Some account
text_of (value.Day day) = Some (day_text day)
text_of (value.Currency currency) = Some currency
text_of (value.Tag name) = Some name
text_of (value.Truth truth) = Some (truth_text truth)
text_of (value.Number n) = Some (num_text n)
text_of (value.Amount a) = Some (amount_text a)

abbrev pub item_of : MetaEntry → MetaItem
item_of e = record { key = e.key; text = text_of e.value }

abbrev pub items_of : List MetaEntry → List MetaItem
items_of es = map item_of es
