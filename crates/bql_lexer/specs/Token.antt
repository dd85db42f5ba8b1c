-- The token at the front of a text that is not empty, and what stands behind it.
use Rattle.std.specs.Prelude.{◌≡◌, true, ℕ, ◌+◌, ◌==◌, ◌&&◌, ◌||◌, Bool, List, [], length, take}
use Rattle.std.specs.Prelude.{drop, nat_lt, nat_le, slice_index, Option, Some, None, if◌then◌else◌}
use Rattle.std.specs.List.{prefix_len, position_or_len, before_first, after_first}
use Rattle.std.specs.Char.{is_ascii_digit, is_ascii_alphabetic, is_ascii_alphanumeric}
use Rattle.bean_base.specs.Character.{tab, line_feed, carriage_return, space, bang, quote}
use Rattle.bean_base.specs.Character.{apostrophe, open_parenthesis, close_parenthesis, star, plus}
use Rattle.bean_base.specs.Character.{comma, dash, point, slash, semicolon, underscore, tilde}
use Rattle.bean_base.specs.Day.{is_day_form}
use Rattle.bql_lexer.specs.Kind.{word_kind}
use Rattle.bql_lexer.specs.declared.found.Found.{Found}
use Rattle.bql_lexer.specs.declared.kind.Kind.{Kind}
use Rattle.bql_lexer.specs.declared.kind.Kind.TheVariants as kind

-- what stands freely between tokens
abbrev pub is_white : ℕ → Bool
is_white b = (b == space) || (b == tab) || (b == carriage_return) || (b == line_feed)

abbrev pub behind_white : List ℕ → List ℕ
behind_white bs = drop (prefix_len is_white bs) bs

-- the first n bytes
abbrev pub cut : Kind → ℕ → List ℕ → Found
cut kind n bs = record { kind = kind; text = take n bs; rest = drop n bs }

-- all that is left
abbrev pub fault : List ℕ → Found
fault bs = record { kind = kind.Fault; text = bs; rest = [] }

-- a letter or _
abbrev pub begins_word : ℕ → Bool
begins_word b = is_ascii_alphabetic b || (b == underscore)

-- letters, digits and _
abbrev pub is_in_word : ℕ → Bool
is_in_word b = is_ascii_alphanumeric b || (b == underscore)

abbrev pub word_of : List ℕ → List ℕ
word_of bs = take (prefix_len is_in_word bs) bs

abbrev pub word : List ℕ → Found
word bs = cut (word_kind (word_of bs)) (prefix_len is_in_word bs) bs

-- YYYY-MM-DD
abbrev pub begins_with_day : List ℕ → Bool
begins_with_day bs = nat_le 10 (length bs) && (slice_index bs 4 == dash) && is_day_form (take 10 bs)

-- a point and a digit stand at a place
abbrev pub has_decimals : List ℕ → ℕ → Bool
has_decimals bs at =
    nat_lt (at + 1) (length bs) && (slice_index bs at == point)
    && is_ascii_digit (slice_index bs (at + 1))

-- digits, and a point with the digits behind it
abbrev pub whole_len : List ℕ → ℕ
whole_len bs = prefix_len is_ascii_digit bs

abbrev pub number_len : List ℕ → ℕ
number_len bs =
    if has_decimals bs (whole_len bs)
    then whole_len bs + 1 + prefix_len is_ascii_digit (drop (whole_len bs + 1) bs)
    else whole_len bs

abbrev pub day_or_number : List ℕ → Found
day_or_number bs =
    if begins_with_day bs then cut kind.Day 10 bs else cut kind.Number (number_len bs) bs

-- the mark stands among the bytes
abbrev pub is_closed : ℕ → List ℕ → Bool
is_closed mark bs = nat_lt (position_or_len (λ b. b == mark) bs) (length bs)

-- the mark stands there, and these are before and behind the first
pub record IsClosed (mark : ℕ) (bs before behind : List ℕ) : Type 0 where
  pub closed : is_closed mark bs ≡ true
  pub before_it : before ≡ before_first (λ b. b == mark) bs
  pub behind_it : behind ≡ after_first (λ b. b == mark) bs

abbrev pub quoted : List ℕ → List ℕ → Found
quoted inner rest = record { kind = kind.Text; text = inner; rest = rest }

-- behind its first quote a text goes up to the next one that is the same
abbrev pub text_or_fault : ℕ → List ℕ → Found
text_or_fault mark bs =
    if is_closed mark (drop 1 bs)
    then quoted (before_first (λ b. b == mark) (drop 1 bs))
    (after_first (λ b. b == mark) (drop 1 bs))
    else fault bs

abbrev pub equals : ℕ
equals = 61

abbrev pub less : ℕ
less = 60

abbrev pub greater : ℕ
greater = 62

abbrev pub sign_of_two : ℕ → ℕ → Option Kind
sign_of_two a b =
    if (a == bang) && (b == equals) then Some kind.NotEqual
    else if (a == less) && (b == equals) then Some kind.LessOrEqual
    else if (a == greater) && (b == equals) then Some kind.GreaterOrEqual
    else None

abbrev pub sign_of : ℕ → Option Kind
sign_of b =
    if b == equals then Some kind.Equal
    else if b == less then Some kind.Less
    else if b == greater then Some kind.Greater
    else if b == tilde then Some kind.Tilde
    else if b == plus then Some kind.Plus
    else if b == dash then Some kind.Minus
    else if b == star then Some kind.Star
    else if b == slash then Some kind.Slash
    else if b == open_parenthesis then Some kind.OpenParenthesis
    else if b == close_parenthesis then Some kind.CloseParenthesis
    else if b == comma then Some kind.Comma
    else if b == semicolon then Some kind.Semicolon
    else None

abbrev pub sign_of_front : List ℕ → Option Kind
sign_of_front bs =
    if nat_lt 1 (length bs) then sign_of_two (slice_index bs 0) (slice_index bs 1) else None

abbrev pub cut_or_fault : ℕ → List ℕ → Option Kind → Found
cut_or_fault n bs (Some kind) = cut kind n bs
cut_or_fault n bs None = fault bs

-- a sign of two bytes, or else of one
abbrev pub sign_by : List ℕ → Option Kind → Found
sign_by bs (Some kind) = cut kind 2 bs
sign_by bs None = cut_or_fault 1 bs (sign_of (slice_index bs 0))

abbrev pub sign_or_fault : List ℕ → Found
sign_or_fault bs = sign_by bs (sign_of_front bs)

abbrev pub token_by : ℕ → List ℕ → Found
token_by b bs =
    if begins_word b then word bs
    else if is_ascii_digit b then day_or_number bs
    else if b == quote then text_or_fault quote bs
    else if b == apostrophe then text_or_fault apostrophe bs
    else sign_or_fault bs

abbrev pub token_at : List ℕ → Found
token_at bs = token_by (slice_index bs 0) bs
