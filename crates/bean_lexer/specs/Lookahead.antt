-- What a lexer looks ahead for: the tests by which it tells a token from its first bytes.
use Rattle.std.specs.Prelude.{ℕ, ◌+◌, ◌-◌, ◌==◌, ◌&&◌, ◌||◌, not, Bool, List, length, nat_lt}
use Rattle.std.specs.Prelude.{nat_le, nat_eq, slice_index, codes, Option, Some, None, if◌then◌else◌}
use Rattle.std.specs.List.{find, list_all, starts_with}
use Rattle.std.specs.Char.{is_ascii_digit, is_ascii_uppercase, is_ascii_lowercase}
use Rattle.bean_base.specs.Character.{bang, quote, hash, open_parenthesis, close_parenthesis, star}
use Rattle.bean_base.specs.Character.{plus, comma, dash, colon, at_sign, caret, open_brace}
use Rattle.bean_base.specs.Character.{close_brace, tilde, space, is_ascii}
use Rattle.bean_base.specs.Name.{begins_component, is_in_currency}
use Rattle.bean_lexer.specs.TokenForm.{keyword_spelling, is_plain}
use Rattle.bean_lexer.specs.Gap.{is_line_feed}
use Rattle.bean_lexer.specs.declared.kind.TheConstants.{WORDS}
use Rattle.bean_lexer.specs.declared.kind.Keyword.{Keyword}
use Rattle.bean_lexer.specs.declared.kind.Sign.{Sign}
use Rattle.bean_lexer.specs.declared.kind.Sign.TheVariants as signs

-- a comma and a digit stand at a place
abbrev pub has_more_digits : List ℕ → ℕ → Bool
has_more_digits bs at =
    nat_lt (at + 1) (length bs) && (slice_index bs at == comma)
    && is_ascii_digit (slice_index bs (at + 1))

-- the length of a root and its colon at the front, or 0
abbrev pub root_len : List ℕ → ℕ
root_len bs =
    if starts_with nat_eq bs (codes "Expenses:") then 9
    else if starts_with nat_eq bs (codes "Assets:") then 7
    else if starts_with nat_eq bs (codes "Liabilities:") then 12
    else if starts_with nat_eq bs (codes "Equity:") then 7
    else if starts_with nat_eq bs (codes "Income:") then 7
    else 0

abbrev pub begins_component_at : List ℕ → ℕ → Bool
begins_component_at bs at = nat_lt at (length bs) && begins_component (slice_index bs at)

-- a colon stands at a place
abbrev pub has_colon : List ℕ → ℕ → Bool
has_colon bs at = nat_lt at (length bs) && (slice_index bs at == colon)

-- a colon and the first character of a component stand at a place
abbrev pub has_next_component : List ℕ → ℕ → Bool
has_next_component bs at = has_colon bs at && begins_component_at bs (at + 1)

-- a currency, or a truth value
abbrev pub is_currency_form : List ℕ → Bool
is_currency_form bs =
    nat_le 1 (length bs) && nat_le (length bs) 24 && list_all is_in_currency bs
    && (is_ascii_uppercase (slice_index bs 0)
    && (is_ascii_uppercase (slice_index bs (length bs - 1))
    || is_ascii_digit (slice_index bs (length bs - 1))))

-- three capitals, and behind them a byte that is no larger than a space
abbrev pub is_code : List ℕ → Bool
is_code bs =
    nat_lt 3 (length bs) && nat_le (slice_index bs 3) space && is_ascii_uppercase (slice_index bs 0)
    && is_ascii_uppercase (slice_index bs 1)
    && is_ascii_uppercase (slice_index bs 2)

abbrev pub ends_currency : ℕ → Bool
ends_currency b = is_ascii_uppercase b || is_ascii_digit b

-- the last of some characters ends no currency
abbrev pub has_bad_end : List ℕ → ℕ → Bool
has_bad_end bs len = nat_lt 1 len && not (ends_currency (slice_index bs (len - 1)))

-- the word in small letters at the front
abbrev pub keyword_at : List ℕ → Option Keyword
keyword_at bs = find (λ word. starts_with nat_eq bs (keyword_spelling word)) WORDS

-- the bytes that begin nothing but signs and faults
abbrev pub begins_other : ℕ → Bool
begins_other b =
    not (is_ascii_digit b) && not (is_ascii_uppercase b) && not (is_ascii_lowercase b)
    && not (b == quote) && not (b == hash)
    && not (b == caret)

-- a byte that begins no token of more than one line
abbrev pub begins_on_line : ℕ → Bool
begins_on_line b = is_ascii b && not (b == quote) && not (is_line_feed b)

-- a byte that goes on a text in its line, without an escape
abbrev pub is_in_plain_text : ℕ → Bool
is_in_plain_text b = is_plain b && not (is_line_feed b)

-- the sign of one byte, but for #
abbrev pub sign_of : ℕ → Option Sign
sign_of b =
    if b == star then Some signs.Star
    else if b == bang then Some signs.Bang
    else if b == comma then Some signs.Comma
    else if b == plus then Some signs.Plus
    else if b == dash then Some signs.Minus
    else if b == open_parenthesis then Some signs.OpenParenthesis
    else if b == close_parenthesis then Some signs.CloseParenthesis
    else if b == open_brace then Some signs.OpenBrace
    else if b == close_brace then Some signs.CloseBrace
    else if b == at_sign then Some signs.At
    else if b == tilde then Some signs.Tilde
    else None

-- the sign that a byte is twice
abbrev pub doubled_sign_of : ℕ → Option Sign
doubled_sign_of b =
    if b == open_brace then Some signs.OpenBraces
    else if b == close_brace then Some signs.CloseBraces
    else if b == at_sign then Some signs.AtAt
    else None

abbrev pub doubled_sign_at : List ℕ → Option Sign
doubled_sign_at bs = if nat_lt 1 (length bs) && (slice_index bs 1 == slice_index bs 0) then
    doubled_sign_of (slice_index bs 0) else None
