-- A block without a day: one line, of a word and what stands behind it.
--
-- option    text text
-- include   text
-- plugin    text [text]
-- pushtag   tag
-- poptag    tag
-- pushmeta  key value
-- popmeta   key
use Rattle.std.specs.Prelude.{◌≡◌, ℕ, false, List, ◌∷◌, Option, codes, if◌then◌else◌}
use Rattle.std.specs.Str.{bytes_eq}
use Rattle.theory.specs.Form.{Form, Is, word, made, ◌<+>◌, due}
use Rattle.bean_lexer.specs.declared.kind.Keyword.TheVariants as keyword
use Rattle.bean_grammar.specs.declared.metadata.MetaEntry.{MetaEntry}
use Rattle.bean_grammar.specs.declared.ranged.Ranged.{Ranged}
use Rattle.bean_grammar.specs.declared.ranged.Ranged.TheVariants.{Within}
use Rattle.bean_grammar.specs.Lexeme.{Lexeme, Tag, Key, Keyword, begins_with_text}
use Rattle.bean_grammar.specs.Literal.{text}
use Rattle.bean_grammar.specs.Metadata.{entry}
use Rattle.bean_grammar.specs.Ranged.{ranged_map}
use Rattle.bean_directives.specs.declared.undated.UndatedKind.{UndatedKind}
use Rattle.bean_directives.specs.declared.undated.UndatedKind.TheVariants as kinds
use Rattle.bean_directives.specs.declared.undated.Bound.TheVariants as bounds
use Rattle.bean_directives.specs.declared.undated.SettingKind.TheVariants as settings
use Rattle.bean_directives.specs.declared.undated.Pushed.TheVariants as pushed
use Rattle.bean_directives.specs.declared.undated.PushName.TheVariants as names

-- no line at all
abbrev pub nothing : Form Lexeme (Ranged UndatedKind)
nothing = record { reads = λ ls v rest. ⊥; goes_on = λ rest. false }

-- the options that the books have; all others are ignored
abbrev pub option_of : List ℕ → List ℕ → Ranged UndatedKind
option_of name value =
    Within (if bytes_eq name (codes "title") then kinds.Setting (settings.Title value)
    else if bytes_eq name (codes "operating_currency") then
    kinds.Setting (settings.OperatingCurrency value)
    else if bytes_eq name (codes "booking_method") then kinds.Setting (settings.BookingMethod value)
    else kinds.Ignored)

abbrev pub option : Form Lexeme (Ranged UndatedKind)
option = made option_of <+> text <+> text

abbrev pub include_of : List ℕ → Ranged UndatedKind
include_of name = Within (kinds.Setting (settings.Include name))

abbrev pub include : Form Lexeme (Ranged UndatedKind)
include = made include_of <+> text

abbrev pub plugin_of : List ℕ → Option (List ℕ) → Ranged UndatedKind
plugin_of name configuration = Within kinds.Ignored

abbrev pub plugin : Form Lexeme (Ranged UndatedKind)
plugin = made plugin_of <+> text <+> due begins_with_text text

abbrev pub push_tag_of : List ℕ → Ranged UndatedKind
push_tag_of tag = Within (kinds.Bound (bounds.Push (pushed.Tag tag)))

abbrev pub push_tag : Form Lexeme (Ranged UndatedKind)
push_tag = made push_tag_of <+> word Tag

abbrev pub pop_tag_of : List ℕ → Ranged UndatedKind
pop_tag_of tag = Within (kinds.Bound (bounds.Pop (names.Tag tag)))

abbrev pub pop_tag : Form Lexeme (Ranged UndatedKind)
pop_tag = made pop_tag_of <+> word Tag

abbrev pub push_entry_of : Ranged MetaEntry → Ranged UndatedKind
push_entry_of entry = ranged_map (λ e. kinds.Bound (bounds.Push (pushed.Entry e))) entry

abbrev pub push_entry : Form Lexeme (Ranged UndatedKind)
push_entry = made push_entry_of <+> entry

abbrev pub pop_key_of : List ℕ → Ranged UndatedKind
pop_key_of key = Within (kinds.Bound (bounds.Pop (names.Key key)))

abbrev pub pop_key : Form Lexeme (Ranged UndatedKind)
pop_key = made pop_key_of <+> word Key

-- what stands behind the word that tells the kind
abbrev pub undated_behind : Lexeme → Form Lexeme (Ranged UndatedKind)
undated_behind (Keyword keyword.Option) = option
undated_behind (Keyword keyword.Include) = include
undated_behind (Keyword keyword.Plugin) = plugin
undated_behind (Keyword keyword.PushTag) = push_tag
undated_behind (Keyword keyword.PopTag) = pop_tag
undated_behind (Keyword keyword.PushMeta) = push_entry
undated_behind (Keyword keyword.PopMeta) = pop_key
undated_behind lexeme = nothing

abbrev pub IsUndated : List Lexeme → Ranged UndatedKind → Type 0
IsUndated ls k = (l : Lexeme) × (rest : List Lexeme) × (ls ≡ l ∷ rest)
    × Is (undated_behind l) rest k

abbrev pub IsNotUndated : List Lexeme → Type 0
IsNotUndated ls = (k : Ranged UndatedKind) → IsUndated ls k → ⊥
