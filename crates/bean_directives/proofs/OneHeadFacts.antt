-- First lines are read in one way.
use Rattle.std.proofs.Common.{◌≡◌, List, refl}
use Rattle.theory.specs.Form.{IsUnambiguous, word, made, ◌<+>◌, due, snoc, alone}
use Rattle.theory.proofs.OneReading.{one_word, one_behind, one_due, one_row, one_applied, one_value}
use Rattle.bean_base.specs.declared.days.Day as days
use Rattle.bean_base.specs.declared.flags.Flag as flags
use Rattle.bean_base.specs.declared.flags.Flag.TheVariants.{Complete, Incomplete}
use Rattle.bean_lexer.specs.declared.kind.Keyword.TheVariants as keyword
use Rattle.bean_lexer.specs.declared.kind.Sign.TheVariants as sign
use Rattle.bean_grammar.proofs.AppliedFacts.{one_first, one_next}
use Rattle.bean_grammar.proofs.ExpressionFacts.{one_expression}
use Rattle.bean_grammar.proofs.LexemeFacts.{exact_account, exact_currency}
use Rattle.bean_grammar.proofs.LiteralFacts.{one_written_day, one_text, one_text_due}
use Rattle.bean_grammar.proofs.MarkFacts.{one_marks}
use Rattle.bean_grammar.proofs.MetadataFacts.{one_all_values}
use Rattle.bean_grammar.specs.declared.ranged.Ranged.{Ranged}
use Rattle.bean_grammar.specs.Expression.{expression}
use Rattle.bean_grammar.specs.Lexeme.{Lexeme, Day, Number, Text, Account, Currency, Tag, Link, Key}
use Rattle.bean_grammar.specs.Lexeme.{Keyword, Sign, Fault, begins_with_text, begins_with_currency}
use Rattle.bean_grammar.specs.Literal.{text}
use Rattle.bean_grammar.specs.Mark.{marks}
use Rattle.bean_grammar.specs.Metadata.{all_values}
use Rattle.bean_directives.specs.Head.{nothing, listed, begins_with_comma, some_currencies, currencies}
use Rattle.bean_directives.specs.Head.{open_of, open_line, close_of, close_line, pad_of, pad_line}
use Rattle.bean_directives.specs.Head.{commodity_of, commodity_line, not_below_zero, tolerance}
use Rattle.bean_directives.specs.Head.{begins_with_tilde, balance_of, balance_line, price_of, price_line}
use Rattle.bean_directives.specs.Head.{note_of, note_line, document_of, document_line, event_of}
use Rattle.bean_directives.specs.Head.{event_line, query_of, query_line, custom_of, custom_line}
use Rattle.bean_directives.specs.Head.{words_of, words, transaction_of, transaction_line, kind_behind}
use Rattle.bean_directives.specs.Head.{IsHead}
use Rattle.bean_directives.specs.declared.directive.DirectiveKind.{DirectiveKind}
use Rattle.bean_directives.proofs.FirstLineFacts.{kind_ends, behind_kind}
use Rattle.bean_directives.proofs.HeadFacts.{another, another_told, another_separates, currencies_told}
use Rattle.bean_directives.proofs.HeadFacts.{opened, opened_to_method, tolerance_told, reads_not_below}

-- Rules.

one_nothing : IsUnambiguous nothing
one_nothing ls v rest p ends = absurd p

one_not_below : IsUnambiguous not_below_zero
one_not_below ls v rest p ends = reads_not_below ls v rest (one_expression ls v rest p.0 ends) p.1

one_tolerance : IsUnambiguous (due begins_with_tilde tolerance)
one_tolerance =
    one_due begins_with_tilde tolerance tolerance_told
    (one_behind (Sign sign.Tilde) not_below_zero one_not_below)

one_some_currencies : IsUnambiguous some_currencies
one_some_currencies =
    one_row begins_with_comma (word Currency) alone another snoc (λ ls v rest p. refl)
    another_separates another_told
    (one_word Currency exact_currency)
    (one_behind (Sign sign.Comma) (word Currency) (one_word Currency exact_currency))

one_currencies : IsUnambiguous currencies
one_currencies =
    one_first listed (due begins_with_currency some_currencies)
    (one_due begins_with_currency some_currencies currencies_told one_some_currencies)

one_open_line : IsUnambiguous open_line
one_open_line =
    one_applied opened (due begins_with_text text) opened_to_method
    (one_next (made open_of <+> word Account) currencies (λ r. refl)
    (one_first open_of (word Account) (one_word Account exact_account)) one_currencies)
    one_text_due

one_close_line : IsUnambiguous close_line
one_close_line = one_first close_of (word Account) (one_word Account exact_account)

one_pad_line : IsUnambiguous pad_line
one_pad_line =
    one_next (made pad_of <+> (word Account)) (word Account) (λ r. refl)
    (one_first pad_of (word Account) (one_word Account exact_account))
    (one_word Account exact_account)

one_commodity_line : IsUnambiguous commodity_line
one_commodity_line = one_first commodity_of (word Currency) (one_word Currency exact_currency)

one_balance_line : IsUnambiguous balance_line
one_balance_line =
    one_next (made balance_of <+> (word Account) <+> expression
    <+> (due begins_with_tilde tolerance)) (word Currency) (λ r. refl)
    (one_next (made balance_of <+> (word Account) <+> expression) (due begins_with_tilde tolerance)
    (λ r. refl)
    (one_next (made balance_of <+> (word Account)) expression (λ r. refl)
    (one_first balance_of (word Account) (one_word Account exact_account)) one_expression)
    one_tolerance) (one_word Currency exact_currency)

one_price_line : IsUnambiguous price_line
one_price_line =
    one_next (made price_of <+> (word Currency) <+> expression) (word Currency) (λ r. refl)
    (one_next (made price_of <+> (word Currency)) expression (λ r. refl)
    (one_first price_of (word Currency) (one_word Currency exact_currency)) one_expression)
    (one_word Currency exact_currency)

one_note_line : IsUnambiguous note_line
one_note_line =
    one_next (made note_of <+> (word Account)) text (λ r. refl)
    (one_first note_of (word Account) (one_word Account exact_account)) one_text

one_document_line : IsUnambiguous document_line
one_document_line =
    one_next (made document_of <+> (word Account) <+> text) marks (λ r. refl)
    (one_next (made document_of <+> (word Account)) text (λ r. refl)
    (one_first document_of (word Account) (one_word Account exact_account)) one_text) one_marks

one_event_line : IsUnambiguous event_line
one_event_line =
    one_next (made event_of <+> text) text (λ r. refl) (one_first event_of text one_text) one_text

one_query_line : IsUnambiguous query_line
one_query_line =
    one_next (made query_of <+> text) text (λ r. refl) (one_first query_of text one_text) one_text

one_custom_line : IsUnambiguous custom_line
one_custom_line =
    one_next (made custom_of <+> text) all_values (λ r. refl) (one_first custom_of text one_text)
    one_all_values

one_words : IsUnambiguous words
one_words =
    one_next (made words_of <+> (due begins_with_text text)) (due begins_with_text text) (λ r. refl)
    (one_first words_of (due begins_with_text text) one_text_due) one_text_due

one_transaction_line : (flag : flags.Flag) → IsUnambiguous (transaction_line flag)
one_transaction_line flag =
    one_next (made (transaction_of flag) <+> words) marks (λ r. refl)
    (one_first (transaction_of flag) words one_words) one_marks

one_kind_behind : (l : Lexeme) → IsUnambiguous (kind_behind l)
one_kind_behind (Day bs) = one_nothing
one_kind_behind (Number bs) = one_nothing
one_kind_behind (Text bs) = one_nothing
one_kind_behind (Account bs) = one_nothing
one_kind_behind (Currency bs) = one_nothing
one_kind_behind (Tag bs) = one_nothing
one_kind_behind (Link bs) = one_nothing
one_kind_behind (Key bs) = one_nothing
one_kind_behind (Sign sign.Star) = one_transaction_line Complete
one_kind_behind (Sign sign.Bang) = one_transaction_line Incomplete
one_kind_behind (Sign sign.Comma) = one_nothing
one_kind_behind (Sign sign.Plus) = one_nothing
one_kind_behind (Sign sign.Minus) = one_nothing
one_kind_behind (Sign sign.OpenParenthesis) = one_nothing
one_kind_behind (Sign sign.CloseParenthesis) = one_nothing
one_kind_behind (Sign sign.OpenBrace) = one_nothing
one_kind_behind (Sign sign.CloseBrace) = one_nothing
one_kind_behind (Sign sign.OpenBraces) = one_nothing
one_kind_behind (Sign sign.CloseBraces) = one_nothing
one_kind_behind (Sign sign.At) = one_nothing
one_kind_behind (Sign sign.AtAt) = one_nothing
one_kind_behind (Sign sign.Tilde) = one_nothing
one_kind_behind (Sign sign.Hash) = one_nothing
one_kind_behind (Keyword keyword.Open) = one_open_line
one_kind_behind (Keyword keyword.Close) = one_close_line
one_kind_behind (Keyword keyword.Commodity) = one_commodity_line
one_kind_behind (Keyword keyword.Txn) = one_transaction_line Complete
one_kind_behind (Keyword keyword.Balance) = one_balance_line
one_kind_behind (Keyword keyword.Pad) = one_pad_line
one_kind_behind (Keyword keyword.Note) = one_note_line
one_kind_behind (Keyword keyword.Document) = one_document_line
one_kind_behind (Keyword keyword.Price) = one_price_line
one_kind_behind (Keyword keyword.Event) = one_event_line
one_kind_behind (Keyword keyword.Query) = one_query_line
one_kind_behind (Keyword keyword.Custom) = one_custom_line
one_kind_behind (Keyword keyword.Option) = one_nothing
one_kind_behind (Keyword keyword.Include) = one_nothing
one_kind_behind (Keyword keyword.Plugin) = one_nothing
one_kind_behind (Keyword keyword.PushTag) = one_nothing
one_kind_behind (Keyword keyword.PopTag) = one_nothing
one_kind_behind (Keyword keyword.PushMeta) = one_nothing
one_kind_behind (Keyword keyword.PopMeta) = one_nothing
one_kind_behind (Keyword keyword.True) = one_nothing
one_kind_behind (Keyword keyword.False) = one_nothing
one_kind_behind Fault = one_nothing

pub one_head :
    (ls : List Lexeme) (d : Ranged days.Day) (k : Ranged DirectiveKind) (e : Ranged days.Day)
    (j : Ranged DirectiveKind) → IsHead ls d k → IsHead ls e j → (d ≡ e) × (k ≡ j)
one_head ls d k e j h i =
    let r = one_written_day ls d h.0 h.3 refl in
    let b = behind_kind ls d h.0 h.1 h.2 e j r h.4 i in
    (b.0, one_value (kind_behind h.1) h.2 k j (one_kind_behind h.1) (kind_ends h.1) h.5 b.1)
