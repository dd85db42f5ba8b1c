-- What is read of a line's lexemes is short where these are.
use Rattle.std.proofs.Common.{ℕ, zero, suc, List, [], Option, Some, None, IfSome, sym, subst}
use Rattle.std.specs.List.{AllByRecursion}
use Rattle.theory.specs.Form.{Form, word, made, ◌<+>◌, behind, closed, due, either, snoc, alone}
use Rattle.bean_base.specs.declared.amounts.Amount as amounts
use Rattle.bean_base.specs.declared.num.Num.{Num}
use Rattle.bean_lexer.specs.declared.kind.Sign.TheVariants as sign
use Rattle.bean_grammar.specs.declared.amount.AmountParts.{AmountParts}
use Rattle.bean_grammar.specs.declared.mark.Mark as marks_declared
use Rattle.bean_grammar.specs.declared.mark.Mark.TheVariants as mark_kind
use Rattle.bean_grammar.specs.declared.metadata.Value as values
use Rattle.bean_grammar.specs.declared.metadata.Value.TheVariants as value_kind
use Rattle.bean_grammar.specs.declared.ranged.Ranged.{Ranged}
use Rattle.bean_grammar.specs.declared.ranged.Ranged.TheVariants.{Within, Outside}
use Rattle.bean_grammar.specs.Amount.{amount, amount_of, amount_parts, amount_parts_of}
use Rattle.bean_grammar.specs.Amount.{number_if_due, currency_if_due}
use Rattle.bean_grammar.specs.Expression.{Arithmetic, literal, product_of, sum_of, signed_of}
use Rattle.bean_grammar.specs.Expression.{group_of, factor, computed, in_ledger, IsValued}
use Rattle.bean_grammar.specs.Expression.{expression, begins_with_expression}
use Rattle.bean_grammar.specs.Lexeme.{Lexeme, Day, Number, Text, Account, Currency, Tag, Link, Key}
use Rattle.bean_grammar.specs.Lexeme.{Keyword, Sign, Fault, plus_or_minus, begins_with_sign}
use Rattle.bean_grammar.specs.Lexeme.{begins_with_plus_or_minus, begins_with_currency}
use Rattle.bean_grammar.specs.Literal.{IsDay, day, text, text_of}
use Rattle.bean_grammar.specs.Mark.{written, begins_with_mark, mark, marks, some_marks}
use Rattle.bean_grammar.specs.Metadata.{IsPlain, any_lexeme, plain, valued, number_value, numeric}
use Rattle.bean_grammar.specs.Metadata.{value, is_more, with_value, all_values, entry_with}
use Rattle.bean_grammar.specs.Metadata.{entry_of, entry}
use Rattle.bean_directives.specs.SmallPart.{IsShort, IsShortCurrency, IsShortMark, IsShortValue, IsShortEntry}
use Rattle.bean_parser.proofs.SmallKeeping.{Keeps, keeps_word, keeps_made, keeps_applied, keeps_behind}
use Rattle.bean_parser.proofs.SmallKeeping.{keeps_closed, keeps_related, keeps_due, keeps_either}
use Rattle.bean_parser.proofs.SmallKeeping.{keeps_ending, keeps_row, keeps_chain}
use Rattle.bean_parser.proofs.ShortFacts.{Any, WhenWithin, mapped, mapped_any}
use Rattle.theory.proofs.AllFacts.{all_pushed}
use Rattle.bean_parser.proofs.ShortFacts.{text_short}

abbrev pub IsShortLexeme : Lexeme → Type 0
IsShortLexeme (Text bs) = IsShort bs
IsShortLexeme (Account bs) = IsShort bs
IsShortLexeme (Currency bs) = IsShortCurrency bs
IsShortLexeme (Tag bs) = IsShort bs
IsShortLexeme (Link bs) = IsShort bs
IsShortLexeme (Key bs) = IsShort bs
IsShortLexeme l = Unit {0}

-- where each lexeme is short, S holds of what is read
abbrev pub Gives : {V : Type 0} → (V → Type 0) → Form Lexeme V → Type 0
Gives S form = Keeps IsShortLexeme S form

-- Single lexemes.

pub account_kept : Gives IsShort (word Account)
account_kept = keeps_word Account (λ bs h. h)

pub currency_kept : Gives IsShortCurrency (word Currency)
currency_kept = keeps_word Currency (λ bs h. h)

pub tag_kept : Gives IsShort (word Tag)
tag_kept = keeps_word Tag (λ bs h. h)

pub key_kept : Gives IsShort (word Key)
key_kept = keeps_word Key (λ bs h. h)

text_lexeme_kept : Gives IsShort (word Text)
text_lexeme_kept = keeps_word Text (λ bs h. h)

pub text_kept : Gives IsShort text
text_kept = keeps_applied (made text_of) (word Text) text_lexeme_kept
    (keeps_made text_of text_short)

day_lexeme_kept : Gives Any (word Day)
day_lexeme_kept = keeps_word Day (λ bs h. tt)

pub day_kept : Gives Any day
day_kept = keeps_related IsDay (word Day) day_lexeme_kept (λ bs d h is. tt)

-- Expressions.

number_kept : Gives Any (word Number)
number_kept = keeps_word Number (λ bs h. tt)

sign_kept : Gives Any (word plus_or_minus)
sign_kept = keeps_word plus_or_minus (λ b h. tt)

literal_kept : {V : Type 0} (w : Arithmetic V) → Gives Any (literal w)
literal_kept w = keeps_applied (made w.written) (word Number) number_kept
    (keeps_made w.written (λ bs h. tt))

product_kept : {V : Type 0} (w : Arithmetic V) (f : Form Lexeme V) → Gives Any f
    → Gives Any (product_of w f)
product_kept w f h =
    keeps_row (begins_with_sign sign.Star) f (λ v. v) (behind (Sign sign.Star) f) w.times h
    (keeps_behind (Sign sign.Star) f h) (λ v any. tt) (λ s v any one. tt)

sum_kept : {V : Type 0} (w : Arithmetic V) (f : Form Lexeme V) → Gives Any f
    → Gives Any (sum_of w f)
sum_kept w f h =
    keeps_chain begins_with_plus_or_minus (word plus_or_minus) (product_of w f) w.joined sign_kept
    (product_kept w f h)

signed_kept : {V : Type 0} (w : Arithmetic V) (f : Form Lexeme V) → Gives Any f
    → Gives Any (signed_of w f)
signed_kept w f h =
    keeps_applied (made w.signed <+> word plus_or_minus) f h
    (keeps_applied (made w.signed) (word plus_or_minus) sign_kept
    (keeps_made w.signed (λ b any v one. tt)))

group_kept : {V : Type 0} (w : Arithmetic V) (f : Form Lexeme V) → Gives Any f
    → Gives Any (group_of w f)
group_kept w f h =
    keeps_behind (Sign sign.OpenParenthesis) (closed (Sign sign.CloseParenthesis) (sum_of w f))
    (keeps_closed (Sign sign.CloseParenthesis) (sum_of w f) (sum_kept w f h))

factor_kept : {V : Type 0} (w : Arithmetic V) (room : ℕ) → Gives Any (factor w room)
unfolding factor
factor_kept w zero = literal_kept w
factor_kept w (suc room) =
    keeps_either (signed_of w (factor w room)) (either (group_of w (factor w room)) (literal w))
    (signed_kept w (factor w room) (factor_kept w room))
    (keeps_either (group_of w (factor w room)) (literal w)
    (group_kept w (factor w room) (factor_kept w room)) (literal_kept w))

pub expression_kept : Gives Any expression
expression_kept =
    keeps_related IsValued (computed in_ledger)
    (keeps_ending (sum_of in_ledger (factor in_ledger 200))
    (sum_kept in_ledger (factor in_ledger 200) (factor_kept in_ledger 200))) (λ v n any is. tt)

-- Amounts.

abbrev pub IsShortAmount : amounts.Amount → Type 0
IsShortAmount a = IsShortCurrency a.currency

pub amount_short : (n : Ranged Num) (c : List ℕ) → IsShortCurrency c
    → WhenWithin IsShortAmount (amount_of n c)
amount_short (Within n) c h = h
amount_short Outside c h = tt

pub amount_kept : Gives (WhenWithin IsShortAmount) amount
amount_kept =
    keeps_applied (made amount_of <+> expression) (word Currency) currency_kept
    (keeps_applied (made amount_of) expression expression_kept
    (keeps_made amount_of (λ n any c h. amount_short n c h)))

pub number_if_due_kept : Gives (λ o. IfSome o Any) number_if_due
number_if_due_kept = keeps_due begins_with_expression expression expression_kept

pub currency_if_due_kept : Gives (λ o. IfSome o IsShortCurrency) currency_if_due
currency_if_due_kept = keeps_due begins_with_currency (word Currency) currency_kept

abbrev pub AreShortAmountParts : AmountParts → Type 0
AreShortAmountParts p = IfSome p.currency IsShortCurrency

pub amount_parts_kept : Gives AreShortAmountParts amount_parts
amount_parts_kept =
    keeps_applied (made amount_parts_of <+> number_if_due) currency_if_due currency_if_due_kept
    (keeps_applied (made amount_parts_of) number_if_due number_if_due_kept
    (keeps_made amount_parts_of (λ n any c h. h)))

-- Tags and links.

mark_short : (m : marks_declared.Mark) → IsShortLexeme (written m) → IsShortMark m
mark_short (mark_kind.Tag bs) h = h
mark_short (mark_kind.Link bs) h = h

mark_kept : Gives IsShortMark mark
mark_kept = keeps_word written mark_short

pub marks_kept : Gives (AllByRecursion IsShortMark) marks
marks_kept =
    keeps_row begins_with_mark (made []) (λ s. s) mark snoc (keeps_made [] tt) mark_kept (λ s h. h)
    (λ ms m h k. all_pushed IsShortMark ms m h k)

pub some_marks_kept : Gives (AllByRecursion IsShortMark) some_marks
some_marks_kept =
    keeps_row begins_with_mark mark alone mark snoc mark_kept mark_kept (λ m h. (h, tt))
    (λ ms m h k. all_pushed IsShortMark ms m h k)

-- Metadata.

plain_short : (l : Lexeme) (v : Ranged values.Value) → IsShortLexeme l → IsPlain l v
    → WhenWithin IsShortValue v
plain_short (Text bs) v h is = subst (WhenWithin IsShortValue) (sym is) (text_short bs h)
plain_short (Account bs) v h is = subst (WhenWithin IsShortValue) (sym is) h
plain_short (Day bs) v h is =
    subst (WhenWithin IsShortValue) (sym is.2)
    (mapped_any IsShortValue value_kind.Day is.0 (λ d. tt))
plain_short (Currency bs) v h is = subst (WhenWithin IsShortValue) (sym is) h
plain_short (Tag bs) v h is = subst (WhenWithin IsShortValue) (sym is) h
plain_short (Keyword k) v h is = subst (WhenWithin IsShortValue) (sym is.2) tt
plain_short (Number bs) v h is = absurd is
plain_short (Link bs) v h is = absurd is
plain_short (Key bs) v h is = absurd is
plain_short (Sign s) v h is = absurd is
plain_short Fault v h is = absurd is

plain_kept : Gives (WhenWithin IsShortValue) plain
plain_kept =
    keeps_related IsPlain (word any_lexeme) (keeps_word any_lexeme (λ l h. h)) plain_short

valued_short : (c : Option (List ℕ)) (n : Num) → IfSome c IsShortCurrency
    → IsShortValue (valued c n)
valued_short None n h = tt
valued_short (Some c) n h = h

numeric_kept : Gives (WhenWithin IsShortValue) numeric
numeric_kept =
    keeps_applied (made number_value <+> expression) currency_if_due currency_if_due_kept
    (keeps_applied (made number_value) expression expression_kept
    (keeps_made number_value
    (λ n any c h. mapped_any IsShortValue (valued c) n (λ x. valued_short c x h))))

value_kept : Gives (WhenWithin IsShortValue) value
value_kept = keeps_either plain numeric plain_kept numeric_kept

pub all_values_kept : Gives Any all_values
all_values_kept =
    keeps_row is_more (made (Within [])) (λ vs. vs) value with_value (keeps_made (Within []) tt)
    value_kept (λ vs h. h) (λ vs v h k. tt)

entry_short : (key : List ℕ) (v : Option (Ranged values.Value)) → IsShort key
    → IfSome v (WhenWithin IsShortValue) → WhenWithin IsShortEntry (entry_of key v)
entry_short key None h k = (h, tt)
entry_short key (Some v) h k = mapped IsShortEntry (entry_with key) v k (λ w short. (h, short))

pub entry_kept : Gives (WhenWithin IsShortEntry) entry
entry_kept =
    keeps_applied (made entry_of <+> word Key) (due is_more value)
    (keeps_due is_more value value_kept)
    (keeps_applied (made entry_of) (word Key) key_kept
    (keeps_made entry_of (λ key h v k. entry_short key v h k)))
