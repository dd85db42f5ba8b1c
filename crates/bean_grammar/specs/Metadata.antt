-- Values and metadata entries.
--
-- value = text | account | day | currency | tag | "TRUE" | "FALSE" | expression [currency]
-- entry = key [value]
use Rattle.std.specs.Prelude.{◌≡◌, Bool, true, false, List, [], ◌∷◌, ℕ, Option, Some, None, is_some}
use Rattle.theory.specs.Form.{Form, word, made, ◌<+>◌, due, either, row, related, snoc}
use Rattle.bean_base.specs.declared.days.Day as days
use Rattle.bean_base.specs.declared.num.Num.{Num}
use Rattle.bean_lexer.specs.declared.kind.Keyword as keywords
use Rattle.bean_lexer.specs.declared.kind.Keyword.TheVariants as keyword
use Rattle.bean_grammar.specs.declared.metadata.Value as values
use Rattle.bean_grammar.specs.declared.metadata.Value.TheVariants as value_kind
use Rattle.bean_grammar.specs.declared.metadata.MetaEntry.{MetaEntry}
use Rattle.bean_grammar.specs.declared.ranged.Ranged.{Ranged}
use Rattle.bean_grammar.specs.declared.ranged.Ranged.TheVariants.{Within}
use Rattle.bean_grammar.specs.Amount.{currency_if_due}
use Rattle.bean_grammar.specs.Expression.{expression}
use Rattle.bean_grammar.specs.Lexeme.{Lexeme, Day, Text, Account, Currency, Tag, Key, Keyword}
use Rattle.bean_grammar.specs.Literal.{IsDay, text_of}
use Rattle.bean_grammar.specs.Ranged.{ranged_map, ranged_map2}

abbrev pub truth : keywords.Keyword → Option Bool
truth keyword.True = Some true
truth keyword.False = Some false
truth k = None

-- what one lexeme stands for
abbrev pub IsPlain : Lexeme → Ranged values.Value → Type 0
IsPlain (Text bs) v = v ≡ Within (value_kind.Text (text_of bs))
IsPlain (Account bs) v = v ≡ Within (value_kind.Account bs)
IsPlain (Day bs) v = (d : Ranged days.Day) × IsDay bs d × (v ≡ ranged_map value_kind.Day d)
IsPlain (Currency bs) v = v ≡ Within (value_kind.Currency bs)
IsPlain (Tag bs) v = v ≡ Within (value_kind.Tag bs)
IsPlain (Keyword k) v = (b : Bool) × (truth k ≡ Some b) × (v ≡ Within (value_kind.Truth b))
IsPlain l v = ⊥

abbrev pub is_plain : Lexeme → Bool
is_plain (Text bs) = true
is_plain (Account bs) = true
is_plain (Day bs) = true
is_plain (Currency bs) = true
is_plain (Tag bs) = true
is_plain (Keyword k) = is_some (truth k)
is_plain l = false

abbrev pub begins_with_plain : List Lexeme → Bool
begins_with_plain [] = false
begins_with_plain (l ∷ ls) = is_plain l

abbrev pub any_lexeme : Lexeme → Lexeme
any_lexeme l = l

abbrev pub plain : Form Lexeme (Ranged values.Value)
plain = related IsPlain (word any_lexeme)

abbrev pub valued : Option (List ℕ) → Num → values.Value
valued None n = value_kind.Number n
valued (Some c) n = value_kind.Amount record { number = n; currency = c }

abbrev pub number_value : Ranged Num → Option (List ℕ) → Ranged values.Value
number_value number currency = ranged_map (valued currency) number

abbrev pub numeric : Form Lexeme (Ranged values.Value)
numeric = made number_value <+> expression <+> currency_if_due

-- as far as it goes
abbrev pub value : Form Lexeme (Ranged values.Value)
value = either plain numeric

abbrev pub is_more : List Lexeme → Bool
is_more [] = false
is_more (l ∷ ls) = true

abbrev pub with_value : Ranged (List values.Value) → Ranged values.Value
    → Ranged (List values.Value)
with_value vs v = ranged_map2 snoc vs v

-- values up to the end of the line, each the longest that fits; in range where each is
abbrev pub all_values : Form Lexeme (Ranged (List values.Value))
all_values = row is_more (made (Within [])) (λ vs. vs) value with_value

abbrev pub entry_with : List ℕ → values.Value → MetaEntry
entry_with key value = record { key = key; value = value }

-- a value that isn't written is nothing
abbrev pub entry_of : List ℕ → Option (Ranged values.Value) → Ranged MetaEntry
entry_of key (Some v) = ranged_map (entry_with key) v
entry_of key None = Within (entry_with key value_kind.Nothing)

abbrev pub entry : Form Lexeme (Ranged MetaEntry)
entry = made entry_of <+> word Key <+> due is_more value
