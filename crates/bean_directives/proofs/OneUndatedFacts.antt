-- Lines without a day are read in one way.
use Rattle.std.proofs.Common.{◌≡◌, List, refl}
use Rattle.theory.specs.Form.{IsUnambiguous, word, made, ◌<+>◌, due}
use Rattle.theory.proofs.OneReading.{one_word, one_value}
use Rattle.bean_lexer.specs.declared.kind.Keyword.TheVariants as keyword
use Rattle.bean_lexer.specs.declared.kind.Sign.TheVariants as sign
use Rattle.bean_grammar.proofs.AppliedFacts.{one_first, one_next}
use Rattle.bean_grammar.proofs.LexemeFacts.{exact_tag, exact_key}
use Rattle.bean_grammar.proofs.LiteralFacts.{one_text, one_text_due}
use Rattle.bean_grammar.proofs.MetadataFacts.{one_entry}
use Rattle.bean_grammar.specs.declared.ranged.Ranged.{Ranged}
use Rattle.bean_grammar.specs.Lexeme.{Lexeme, Day, Number, Text, Account, Currency, Tag, Link, Key}
use Rattle.bean_grammar.specs.Lexeme.{Keyword, Sign, Fault, begins_with_text}
use Rattle.bean_grammar.specs.Literal.{text}
use Rattle.bean_grammar.specs.Metadata.{entry}
use Rattle.bean_directives.specs.Undated.{nothing, option_of, option, include_of, include, plugin_of}
use Rattle.bean_directives.specs.Undated.{plugin, push_tag_of, push_tag, pop_tag_of, pop_tag}
use Rattle.bean_directives.specs.Undated.{push_entry_of, push_entry, pop_key_of, pop_key, undated_behind}
use Rattle.bean_directives.specs.Undated.{IsUndated}
use Rattle.bean_directives.specs.declared.undated.UndatedKind.{UndatedKind}
use Rattle.bean_directives.proofs.FirstLineFacts.{undated_ends, behind_word}

one_nothing : IsUnambiguous nothing
one_nothing ls v rest p ends = absurd p

one_option : IsUnambiguous option
one_option =
    one_next (made option_of <+> text) text (λ r. refl) (one_first option_of text one_text) one_text

one_include : IsUnambiguous include
one_include = one_first include_of text one_text

one_plugin : IsUnambiguous plugin
one_plugin =
    one_next (made plugin_of <+> text) (due begins_with_text text) (λ r. refl)
    (one_first plugin_of text one_text) one_text_due

one_push_tag : IsUnambiguous push_tag
one_push_tag = one_first push_tag_of (word Tag) (one_word Tag exact_tag)

one_pop_tag : IsUnambiguous pop_tag
one_pop_tag = one_first pop_tag_of (word Tag) (one_word Tag exact_tag)

one_push_entry : IsUnambiguous push_entry
one_push_entry = one_first push_entry_of entry one_entry

one_pop_key : IsUnambiguous pop_key
one_pop_key = one_first pop_key_of (word Key) (one_word Key exact_key)

one_undated_behind : (l : Lexeme) → IsUnambiguous (undated_behind l)
one_undated_behind (Day bs) = one_nothing
one_undated_behind (Number bs) = one_nothing
one_undated_behind (Text bs) = one_nothing
one_undated_behind (Account bs) = one_nothing
one_undated_behind (Currency bs) = one_nothing
one_undated_behind (Tag bs) = one_nothing
one_undated_behind (Link bs) = one_nothing
one_undated_behind (Key bs) = one_nothing
one_undated_behind (Sign sign.Star) = one_nothing
one_undated_behind (Sign sign.Bang) = one_nothing
one_undated_behind (Sign sign.Comma) = one_nothing
one_undated_behind (Sign sign.Plus) = one_nothing
one_undated_behind (Sign sign.Minus) = one_nothing
one_undated_behind (Sign sign.OpenParenthesis) = one_nothing
one_undated_behind (Sign sign.CloseParenthesis) = one_nothing
one_undated_behind (Sign sign.OpenBrace) = one_nothing
one_undated_behind (Sign sign.CloseBrace) = one_nothing
one_undated_behind (Sign sign.OpenBraces) = one_nothing
one_undated_behind (Sign sign.CloseBraces) = one_nothing
one_undated_behind (Sign sign.At) = one_nothing
one_undated_behind (Sign sign.AtAt) = one_nothing
one_undated_behind (Sign sign.Tilde) = one_nothing
one_undated_behind (Sign sign.Hash) = one_nothing
one_undated_behind (Keyword keyword.Open) = one_nothing
one_undated_behind (Keyword keyword.Close) = one_nothing
one_undated_behind (Keyword keyword.Commodity) = one_nothing
one_undated_behind (Keyword keyword.Txn) = one_nothing
one_undated_behind (Keyword keyword.Balance) = one_nothing
one_undated_behind (Keyword keyword.Pad) = one_nothing
one_undated_behind (Keyword keyword.Note) = one_nothing
one_undated_behind (Keyword keyword.Document) = one_nothing
one_undated_behind (Keyword keyword.Price) = one_nothing
one_undated_behind (Keyword keyword.Event) = one_nothing
one_undated_behind (Keyword keyword.Query) = one_nothing
one_undated_behind (Keyword keyword.Custom) = one_nothing
one_undated_behind (Keyword keyword.Option) = one_option
one_undated_behind (Keyword keyword.Include) = one_include
one_undated_behind (Keyword keyword.Plugin) = one_plugin
one_undated_behind (Keyword keyword.PushTag) = one_push_tag
one_undated_behind (Keyword keyword.PopTag) = one_pop_tag
one_undated_behind (Keyword keyword.PushMeta) = one_push_entry
one_undated_behind (Keyword keyword.PopMeta) = one_pop_key
one_undated_behind (Keyword keyword.True) = one_nothing
one_undated_behind (Keyword keyword.False) = one_nothing
one_undated_behind Fault = one_nothing

pub one_undated : (ls : List Lexeme) (k j : Ranged UndatedKind) → IsUndated ls k → IsUndated ls j
    → k ≡ j
one_undated ls k j h i =
    one_value (undated_behind h.0) h.1 k j (one_undated_behind h.0) (undated_ends h.0) h.3
    (behind_word ls h.0 h.1 j h.2 i)
