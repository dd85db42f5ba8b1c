-- The first line of a directive: a day, a word or a sign that tells the kind, and what stands
-- behind it.
--
-- open           account [currency {"," currency}] [text]
-- close          account
-- pad            account account
-- commodity      currency
-- note           account text
-- document       account text {tag|link}
-- balance        account expression ["~" expression] currency
-- price          currency expression currency
-- event          text text
-- query          text text
-- custom         text {value}
-- "*", "!", txn  [text [text]] {tag|link}
use Rattle.std.specs.Prelude.{◌≡◌, ℕ, Bool, true, false, List, [], ◌∷◌, Option, Some, None}
use Rattle.theory.specs.Form.{Form, Is, word, made, ◌<+>◌, behind, due, separated}
use Rattle.bean_base.specs.declared.days.Day as days
use Rattle.bean_base.specs.declared.flags.Flag as flags
use Rattle.bean_base.specs.declared.flags.Flag.TheVariants.{Complete, Incomplete}
use Rattle.bean_base.specs.declared.num.Num.{Num}
use Rattle.bean_lexer.specs.declared.kind.Keyword.TheVariants as keyword
use Rattle.bean_lexer.specs.declared.kind.Sign.TheVariants as sign
use Rattle.bean_grammar.specs.declared.mark.Mark.{Mark}
use Rattle.bean_grammar.specs.declared.metadata.Value.{Value}
use Rattle.bean_grammar.specs.declared.ranged.Ranged.{Ranged}
use Rattle.bean_grammar.specs.declared.ranged.Ranged.TheVariants.{Within}
use Rattle.bean_grammar.specs.Expression.{expression, IsWorth}
use Rattle.bean_grammar.specs.Lexeme.{Lexeme, Account, Currency, Keyword, Sign, begins_with_text}
use Rattle.bean_grammar.specs.Lexeme.{begins_with_currency, begins_with_sign}
use Rattle.bean_grammar.specs.Literal.{day, text}
use Rattle.bean_grammar.specs.Mark.{marks}
use Rattle.bean_grammar.specs.Metadata.{all_values}
use Rattle.bean_grammar.specs.Ranged.{ranged_map, ranged_map2}
use Rattle.exact_numbers.specs.Exact.{Exact, is_negative}
use Rattle.bean_directives.specs.declared.directive.DirectiveKind.{DirectiveKind}
use Rattle.bean_directives.specs.declared.directive.DirectiveKind.TheVariants as kinds
use Rattle.bean_directives.specs.declared.transaction.PayeeAndNarration.{PayeeAndNarration}

-- no line at all
abbrev pub nothing : Form Lexeme (Ranged DirectiveKind)
nothing = record { reads = λ ls v rest. ⊥; goes_on = λ rest. false }

-- Accounts.

abbrev pub listed : Option (List (List ℕ)) → List (List ℕ)
listed None = []
listed (Some names) = names

abbrev pub begins_with_comma : List Lexeme → Bool
begins_with_comma ls = begins_with_sign sign.Comma ls

abbrev pub some_currencies : Form Lexeme (List (List ℕ))
some_currencies = separated begins_with_comma (Sign sign.Comma) (word Currency)

abbrev pub currencies : Form Lexeme (List (List ℕ))
currencies = made listed <+> due begins_with_currency some_currencies

abbrev pub open_of : List ℕ → List (List ℕ) → Option (List ℕ) → Ranged DirectiveKind
open_of account currencies method =
    Within (kinds.Open record { account = account; currencies = currencies; method = method })

abbrev pub open_line : Form Lexeme (Ranged DirectiveKind)
open_line = made open_of <+> word Account <+> currencies <+> due begins_with_text text

abbrev pub close_of : List ℕ → Ranged DirectiveKind
close_of account = Within (kinds.Close record { account = account })

abbrev pub close_line : Form Lexeme (Ranged DirectiveKind)
close_line = made close_of <+> word Account

abbrev pub pad_of : List ℕ → List ℕ → Ranged DirectiveKind
pad_of account source = Within (kinds.Pad record { account = account; source = source })

abbrev pub pad_line : Form Lexeme (Ranged DirectiveKind)
pad_line = made pad_of <+> word Account <+> word Account

-- Numbers.

abbrev pub commodity_of : List ℕ → Ranged DirectiveKind
commodity_of currency = Within (kinds.Commodity record { currency = currency })

abbrev pub commodity_line : Form Lexeme (Ranged DirectiveKind)
commodity_line = made commodity_of <+> word Currency

abbrev pub begins_with_tilde : List Lexeme → Bool
begins_with_tilde ls = begins_with_sign sign.Tilde ls

-- what the expression at the front is worth, in range or not, is below 0
abbrev pub IsBelowZero : List Lexeme → Type 0
IsBelowZero ls = (value : Exact) × IsWorth ls value × (is_negative value ≡ true)

abbrev pub not_below_zero : Form Lexeme (Ranged Num)
not_below_zero = record {
  reads = λ ls n rest. expression.reads ls n rest × ¬ IsBelowZero ls;
  goes_on = expression.goes_on;
}

-- a number below 0 is no tolerance
abbrev pub tolerance : Form Lexeme (Ranged Num)
tolerance = behind (Sign sign.Tilde) not_below_zero

-- none is in range
abbrev pub ranged_option : Option (Ranged Num) → Ranged (Option Num)
ranged_option None = Within None
ranged_option (Some n) = ranged_map (λ x. Some x) n

abbrev pub balance_of : List ℕ → Ranged Num → Option (Ranged Num) → List ℕ → Ranged DirectiveKind
balance_of account number tolerance currency =
    ranged_map2 (λ n t. kinds.Balance record {
      account = account;
      number = n;
      tolerance =
          t;
      currency = currency;
    }) number (ranged_option tolerance)

abbrev pub balance_line : Form Lexeme (Ranged DirectiveKind)
balance_line =
    made balance_of <+> word Account <+> expression <+> due begins_with_tilde tolerance
    <+> word Currency

abbrev pub price_of : List ℕ → Ranged Num → List ℕ → Ranged DirectiveKind
price_of currency number other =
    ranged_map (λ n. kinds.Price record {
      currency = currency;
      amount =
          record { number = n; currency = other };
    }) number

abbrev pub price_line : Form Lexeme (Ranged DirectiveKind)
price_line = made price_of <+> word Currency <+> expression <+> word Currency

-- Notes.

abbrev pub note_of : List ℕ → List ℕ → Ranged DirectiveKind
note_of account text = Within (kinds.Note record { account = account; text = text })

abbrev pub note_line : Form Lexeme (Ranged DirectiveKind)
note_line = made note_of <+> word Account <+> text

abbrev pub document_of : List ℕ → List ℕ → List Mark → Ranged DirectiveKind
document_of account name marks =
    Within (kinds.Document record { account = account; name = name; marks = marks })

abbrev pub document_line : Form Lexeme (Ranged DirectiveKind)
document_line = made document_of <+> word Account <+> text <+> marks

abbrev pub event_of : List ℕ → List ℕ → Ranged DirectiveKind
event_of name value = Within (kinds.Event record { name = name; value = value })

abbrev pub event_line : Form Lexeme (Ranged DirectiveKind)
event_line = made event_of <+> text <+> text

abbrev pub query_of : List ℕ → List ℕ → Ranged DirectiveKind
query_of name query = Within (kinds.Query record { name = name; query = query })

abbrev pub query_line : Form Lexeme (Ranged DirectiveKind)
query_line = made query_of <+> text <+> text

abbrev pub custom_of : List ℕ → Ranged (List Value) → Ranged DirectiveKind
custom_of name values = ranged_map (λ vs. kinds.Custom record { name = name; values = vs }) values

abbrev pub custom_line : Form Lexeme (Ranged DirectiveKind)
custom_line = made custom_of <+> text <+> all_values

-- Transactions.

-- of two texts the first is the payee, and the last text is the narration
abbrev pub words_of : Option (List ℕ) → Option (List ℕ) → PayeeAndNarration
words_of (Some payee) (Some narration) = record { payee = Some payee; narration = narration }
words_of (Some narration) None = record { payee = None; narration = narration }
words_of None second = record { payee = None; narration = [] }

abbrev pub words : Form Lexeme PayeeAndNarration
words = made words_of <+> due begins_with_text text <+> due begins_with_text text

abbrev pub transaction_of : flags.Flag → PayeeAndNarration → List Mark → Ranged DirectiveKind
transaction_of flag words marks =
    Within (kinds.Transaction record {
      flag = flag;
      payee = words.payee;
      narration =
          words.narration;
      marks = marks;
      postings = [];
    })

abbrev pub transaction_line : flags.Flag → Form Lexeme (Ranged DirectiveKind)
transaction_line flag = made (transaction_of flag) <+> words <+> marks

-- First lines.

-- what stands behind the lexeme that tells the kind
abbrev pub kind_behind : Lexeme → Form Lexeme (Ranged DirectiveKind)
kind_behind (Sign sign.Star) = transaction_line Complete
kind_behind (Sign sign.Bang) = transaction_line Incomplete
kind_behind (Keyword keyword.Txn) = transaction_line Complete
kind_behind (Keyword keyword.Open) = open_line
kind_behind (Keyword keyword.Close) = close_line
kind_behind (Keyword keyword.Commodity) = commodity_line
kind_behind (Keyword keyword.Balance) = balance_line
kind_behind (Keyword keyword.Pad) = pad_line
kind_behind (Keyword keyword.Note) = note_line
kind_behind (Keyword keyword.Document) = document_line
kind_behind (Keyword keyword.Price) = price_line
kind_behind (Keyword keyword.Event) = event_line
kind_behind (Keyword keyword.Query) = query_line
kind_behind (Keyword keyword.Custom) = custom_line
kind_behind lexeme = nothing

-- a day, and a kind that takes the rest of the line
abbrev pub IsHead : List Lexeme → Ranged days.Day → Ranged DirectiveKind → Type 0
IsHead ls d k =
    (mid : List Lexeme) × (l : Lexeme) × (rest : List Lexeme)
    × day.reads ls d mid × (mid ≡ l ∷ rest) × Is (kind_behind l) rest k

abbrev pub IsNoHead : List Lexeme → Type 0
IsNoHead ls = (d : Ranged days.Day) (k : Ranged DirectiveKind) → IsHead ls d k → ⊥
