-- First lines are small where their lexemes are short.
use Rattle.std.proofs.Common.{◌≡◌, ℕ, List, [], Option, Some, None, IfSome, ◌≤◌, length, arith}
use Rattle.std.proofs.Common.{refl, sym, ◌∙◌, ap, subst}
use Rattle.std.specs.List.{AllByRecursion}
use Rattle.theory.specs.Form.{Form, Is, word, made, ◌<+>◌, behind, due, alone, snoc}
use Rattle.bean_base.specs.declared.days.Day as days
use Rattle.bean_base.specs.declared.flags.Flag as flags
use Rattle.bean_base.specs.declared.flags.Flag.TheVariants.{Complete, Incomplete}
use Rattle.bean_base.specs.declared.num.Num.{Num}
use Rattle.bean_lexer.specs.declared.kind.Keyword as keywords
use Rattle.bean_lexer.specs.declared.kind.Keyword.TheVariants as keyword
use Rattle.bean_lexer.specs.declared.kind.Sign as signs
use Rattle.bean_lexer.specs.declared.kind.Sign.TheVariants as sign
use Rattle.bean_grammar.specs.declared.ranged.Ranged.{Ranged}
use Rattle.bean_grammar.specs.declared.ranged.Ranged.TheVariants.{Within, Outside}
use Rattle.bean_grammar.specs.Expression.{expression}
use Rattle.bean_grammar.specs.Lexeme.{Lexeme, Account, Currency, Keyword, Sign, begins_with_text}
use Rattle.bean_grammar.specs.Lexeme.{begins_with_currency}
use Rattle.bean_grammar.specs.Literal.{text}
use Rattle.bean_grammar.specs.Mark.{marks}
use Rattle.bean_grammar.specs.Metadata.{all_values}
use Rattle.bean_directives.specs.Head as head
use Rattle.bean_directives.specs.Head.{listed, begins_with_comma, some_currencies, currencies, open_of}
use Rattle.bean_directives.specs.Head.{open_line, close_of, close_line, pad_of, pad_line, commodity_of}
use Rattle.bean_directives.specs.Head.{commodity_line, begins_with_tilde, not_below_zero, tolerance}
use Rattle.bean_directives.specs.Head.{ranged_option, balance_of, balance_line, price_of, price_line}
use Rattle.bean_directives.specs.Head.{note_of, note_line, document_of, document_line, event_of}
use Rattle.bean_directives.specs.Head.{event_line, query_of, query_line, custom_of, custom_line}
use Rattle.bean_directives.specs.Head.{words_of, words, transaction_of, transaction_line, kind_behind}
use Rattle.bean_directives.specs.Head.{IsHead}
use Rattle.bean_directives.specs.declared.directive.DirectiveKind.{DirectiveKind}
use Rattle.bean_directives.specs.declared.directive.DirectiveKind.TheVariants as kinds
use Rattle.bean_directives.specs.declared.transaction.PayeeAndNarration.{PayeeAndNarration}
use Rattle.bean_directives.specs.SmallPart.{IsShort, IsShortCurrency}
use Rattle.bean_directives.specs.Small.{IsSmallKind, marks_of}
use Rattle.bean_parser.proofs.SmallKeeping.{keeps_made, keeps_applied, keeps_behind, keeps_due, keeps_row}
use Rattle.bean_parser.proofs.SmallKeeping.{kept}
use Rattle.bean_parser.proofs.ShortFacts.{Any, WhenWithin, any_within, mapped_any}
use Rattle.theory.proofs.AllFacts.{all_pushed}
use Rattle.bean_parser.proofs.ShortFacts.{mapped2}
use Rattle.bean_parser.proofs.SmallLineFacts.{IsShortLexeme, Gives, account_kept, currency_kept}
use Rattle.bean_parser.proofs.SmallLineFacts.{text_kept, day_kept, expression_kept, marks_kept}
use Rattle.bean_parser.proofs.SmallLineFacts.{all_values_kept}
use Rattle.bean_parser.proofs.SmallMarkFacts.{marks_no_more, words_no_longer}

-- small, and no transaction with tags or links
abbrev IsMarkless : DirectiveKind → Type 0
IsMarkless k = IsSmallKind k × (marks_of k ≡ [])

abbrev GivesKind : Form Lexeme (Ranged DirectiveKind) → Type 0
GivesKind form = Gives (WhenWithin IsMarkless) form

nothing_kept : GivesKind head.nothing
nothing_kept = record { keeps = λ ls v rest all p. absurd p }

text_if_due_kept : Gives (λ o. IfSome o IsShort) (due begins_with_text text)
text_if_due_kept = keeps_due begins_with_text text text_kept

-- Accounts.

listed_short : (o : Option (List (List ℕ))) → IfSome o (AllByRecursion IsShortCurrency)
    → AllByRecursion IsShortCurrency (listed o)
listed_short None h = tt
listed_short (Some names) h = h

some_currencies_kept : Gives (AllByRecursion IsShortCurrency) some_currencies
some_currencies_kept =
    keeps_row begins_with_comma (word Currency) alone
    (behind (Sign sign.Comma) (word Currency)) snoc currency_kept
    (keeps_behind (Sign sign.Comma) (word Currency) currency_kept) (λ c h. (h, tt))
    (λ cs c h k. all_pushed IsShortCurrency cs c h k)

currencies_kept : Gives (AllByRecursion IsShortCurrency) currencies
currencies_kept =
    keeps_applied (made listed) (due begins_with_currency some_currencies)
    (keeps_due begins_with_currency some_currencies some_currencies_kept)
    (keeps_made listed listed_short)

open_kept : GivesKind open_line
open_kept =
    keeps_applied (made open_of <+> word Account <+> currencies) (due begins_with_text text)
    text_if_due_kept
    (keeps_applied (made open_of <+> word Account) currencies currencies_kept
    (keeps_applied (made open_of) (word Account) account_kept
    (keeps_made open_of (λ account a names s method m. ((a, s), refl)))))

close_kept : GivesKind close_line
close_kept =
    keeps_applied (made close_of) (word Account) account_kept
    (keeps_made close_of (λ account a. (a, refl)))

pad_kept : GivesKind pad_line
pad_kept =
    keeps_applied (made pad_of <+> word Account) (word Account) account_kept
    (keeps_applied (made pad_of) (word Account) account_kept
    (keeps_made pad_of (λ account a source s. ((a, s), refl))))

-- Numbers.

commodity_kept : GivesKind commodity_line
commodity_kept =
    keeps_applied (made commodity_of) (word Currency) currency_kept
    (keeps_made commodity_of (λ c h. (tt, refl)))

not_below_kept : Gives Any not_below_zero
not_below_kept = record { keeps = λ ls v rest all p. expression_kept.keeps ls v rest all p.0 }

tolerance_kept : Gives (λ o. IfSome o Any) (due begins_with_tilde tolerance)
tolerance_kept =
    keeps_due begins_with_tilde tolerance
    (keeps_behind (Sign sign.Tilde) not_below_zero not_below_kept)

abbrev the_balance : List ℕ → List ℕ → Num → Option Num → DirectiveKind
the_balance account currency n t =
    kinds.Balance record { account = account; number = n; tolerance = t; currency = currency }

balance_kept : GivesKind balance_line
balance_kept =
    keeps_applied
    (made balance_of <+> word Account <+> expression <+> due begins_with_tilde tolerance)
    (word Currency) currency_kept
    (keeps_applied (made balance_of <+> word Account <+> expression)
    (due begins_with_tilde tolerance) tolerance_kept
    (keeps_applied (made balance_of <+> word Account) expression expression_kept
    (keeps_applied (made balance_of) (word Account) account_kept
    (keeps_made balance_of
    (λ account a n any t due currency c.
    mapped2 IsMarkless (the_balance account currency) n (ranged_option t) (any_within n)
    (any_within (ranged_option t)) (λ x y one two. ((a, c), refl)))))))

price_kept : GivesKind price_line
price_kept =
    keeps_applied (made price_of <+> word Currency <+> expression) (word Currency) currency_kept
    (keeps_applied (made price_of <+> word Currency) expression expression_kept
    (keeps_applied (made price_of) (word Currency) currency_kept
    (keeps_made price_of
    (λ currency c n any other o.
    mapped_any IsMarkless
    (λ x. kinds.Price record {
      currency = currency;
      amount = record { number = x; currency = other };
    }) n (λ x. (tt, refl))))))

-- Notes.

note_kept : GivesKind note_line
note_kept =
    keeps_applied (made note_of <+> word Account) text text_kept
    (keeps_applied (made note_of) (word Account) account_kept
    (keeps_made note_of (λ account a t h. (tt, refl))))

document_kept : GivesKind document_line
document_kept =
    keeps_applied (made document_of <+> word Account <+> text) marks marks_kept
    (keeps_applied (made document_of <+> word Account) text text_kept
    (keeps_applied (made document_of) (word Account) account_kept
    (keeps_made document_of (λ account a name n ms h. (tt, refl)))))

event_kept : GivesKind event_line
event_kept =
    keeps_applied (made event_of <+> text) text text_kept
    (keeps_applied (made event_of) text text_kept
    (keeps_made event_of (λ name n value v. (tt, refl))))

query_kept : GivesKind query_line
query_kept =
    keeps_applied (made query_of <+> text) text text_kept
    (keeps_applied (made query_of) text text_kept
    (keeps_made query_of (λ name n value v. (tt, refl))))

custom_kept : GivesKind custom_line
custom_kept =
    keeps_applied (made custom_of <+> text) all_values all_values_kept
    (keeps_applied (made custom_of) text text_kept
    (keeps_made custom_of
    (λ name n values any.
    mapped_any IsMarkless (λ vs. kinds.Custom record { name = name; values = vs }) values
    (λ vs. (tt, refl)))))

-- Transactions.

abbrev AreShortWords : PayeeAndNarration → Type 0
AreShortWords w = IfSome w.payee IsShort × IsShort w.narration

words_short : (a b : Option (List ℕ)) → IfSome a IsShort → IfSome b IsShort
    → AreShortWords (words_of a b)
words_short (Some payee) (Some narration) h k = (h, k)
words_short (Some narration) None h k = (tt, h)
words_short None b h k = (tt, omega arith)

words_kept : Gives AreShortWords words
words_kept =
    keeps_applied (made words_of <+> due begins_with_text text) (due begins_with_text text)
    text_if_due_kept
    (keeps_applied (made words_of) (due begins_with_text text) text_if_due_kept
    (keeps_made words_of (λ a h b k. words_short a b h k)))

transaction_kept : (flag : flags.Flag) → Gives (WhenWithin IsSmallKind) (transaction_line flag)
transaction_kept flag =
    keeps_applied (made (transaction_of flag) <+> words) marks marks_kept
    (keeps_applied (made (transaction_of flag)) words words_kept
    (keeps_made (transaction_of flag)
    (λ w h ms m. record {
      payee = h.0;
      narration = h.1;
      marks = m;
      postings = tt;
      few_postings = omega arith;
    })))

-- how many tags and links a kind has where it is in range
abbrev pub marks_in : Ranged DirectiveKind → ℕ
marks_in (Within k) = length (marks_of k)
marks_in Outside = 0

transaction_marks : (flag : flags.Flag) (ls : List Lexeme) (k : Ranged DirectiveKind)
    → Is (transaction_line flag) ls k → marks_in k ≤ length ls
transaction_marks flag ls k is =
    let line = is.3 in
    let same : line.2 ≡ ls = sym line.3.1 in
    let front = words_no_longer line.2 line.1 is.2 line.4 in
    let few = marks_no_more is.2 is.1 [] is.4 in
    let made_of : k ≡ transaction_of flag line.1 is.1 =
    is.5 ∙ ap (λ f. f is.1) (line.5 ∙ ap (λ f. f line.1) line.3.0) in
    let count = ap marks_in made_of in
    let l = ap length same in
    omega arith

-- First lines.

-- the whole is small, and has no more tags and links than lexemes
abbrev IsRead : Form Lexeme (Ranged DirectiveKind) → Type 0
IsRead form =
    (ls : List Lexeme) (k : Ranged DirectiveKind) → AllByRecursion IsShortLexeme ls → Is form ls k
    → WhenWithin IsSmallKind k × (marks_in k ≤ length ls)

no_marks : (ls : List Lexeme) (k : Ranged DirectiveKind) → WhenWithin IsMarkless k
    → WhenWithin IsSmallKind k × (marks_in k ≤ length ls)
no_marks ls (Within k) h = (h.0, let e = ap length h.1 in omega arith)
no_marks ls Outside h = (tt, omega arith)

markless : (form : Form Lexeme (Ranged DirectiveKind)) → GivesKind form → IsRead form
markless form h ls k all is = no_marks ls k (kept form ls k h all is)

transaction_read : (flag : flags.Flag) → IsRead (transaction_line flag)
transaction_read flag ls k all is = (
  kept (transaction_line flag) ls k (transaction_kept flag) all is,
  transaction_marks flag ls k is,
)

nothing_read : IsRead head.nothing
nothing_read ls k all is = absurd is

sign_read : (s : signs.Sign) → IsRead (kind_behind (Sign s))
sign_read sign.Star = transaction_read Complete
sign_read sign.Bang = transaction_read Incomplete
sign_read _ = nothing_read

keyword_read : (k : keywords.Keyword) → IsRead (kind_behind (Keyword k))
keyword_read keyword.Txn = transaction_read Complete
keyword_read keyword.Open = markless open_line open_kept
keyword_read keyword.Close = markless close_line close_kept
keyword_read keyword.Commodity = markless commodity_line commodity_kept
keyword_read keyword.Balance = markless balance_line balance_kept
keyword_read keyword.Pad = markless pad_line pad_kept
keyword_read keyword.Note = markless note_line note_kept
keyword_read keyword.Document = markless document_line document_kept
keyword_read keyword.Price = markless price_line price_kept
keyword_read keyword.Event = markless event_line event_kept
keyword_read keyword.Query = markless query_line query_kept
keyword_read keyword.Custom = markless custom_line custom_kept
keyword_read _ = nothing_read

kind_read : (l : Lexeme) → IsRead (kind_behind l)
kind_read (Sign s) = sign_read s
kind_read (Keyword k) = keyword_read k
kind_read _ = nothing_read

pub head_small : (ls : List Lexeme) (d : Ranged days.Day) (k : Ranged DirectiveKind)
    → AllByRecursion IsShortLexeme ls → IsHead ls d k
    → WhenWithin IsSmallKind k × (marks_in k ≤ length ls)
head_small ls d k all h =
    let mid : AllByRecursion IsShortLexeme h.0 = (day_kept.keeps ls d h.0 all h.3).1 in
    let rest = subst (AllByRecursion IsShortLexeme) h.4 mid in
    let r = kind_read h.1 h.2 k rest.1 h.5 in
    let front = ap length h.3.1 in
    let next = ap length h.4 in
    let few : marks_in k ≤ length h.2 = r.1 in
    (r.0, omega arith)
