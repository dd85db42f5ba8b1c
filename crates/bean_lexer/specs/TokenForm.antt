-- How texts, tags, links, keys, words and signs are written.
use Rattle.std.specs.Prelude.{ℕ, ◌-◌, ◌==◌, ◌&&◌, ◌||◌, Bool, true, false, List, [], ◌∷◌, length}
use Rattle.std.specs.Prelude.{take, nat_lt, slice_index, if◌then◌else◌, codes, not}
use Rattle.std.specs.List.{list_all}
use Rattle.std.specs.Char.{is_ascii_lowercase, is_ascii_alphanumeric}
use Rattle.bean_base.specs.Character.{quote, hash, dash, point, slash, colon, backslash, caret}
use Rattle.bean_base.specs.Character.{underscore, letter_n, letter_t}
use Rattle.bean_lexer.specs.declared.kind.Keyword.{Keyword}
use Rattle.bean_lexer.specs.declared.kind.Keyword.TheVariants.{Open, Close, Commodity, Txn, Balance}
use Rattle.bean_lexer.specs.declared.kind.Keyword.TheVariants.{Pad, Note, Document, Price, Event}
use Rattle.bean_lexer.specs.declared.kind.Keyword.TheVariants.{Query, Custom, Option, Include}
use Rattle.bean_lexer.specs.declared.kind.Keyword.TheVariants.{Plugin, PushTag, PopTag, PushMeta}
use Rattle.bean_lexer.specs.declared.kind.Keyword.TheVariants.{PopMeta, True, False}
use Rattle.bean_lexer.specs.declared.kind.Sign.{Sign}
use Rattle.bean_lexer.specs.declared.kind.Sign.TheVariants.{Star, Bang, Comma, Plus, Minus}
use Rattle.bean_lexer.specs.declared.kind.Sign.TheVariants.{OpenParenthesis, CloseParenthesis}
use Rattle.bean_lexer.specs.declared.kind.Sign.TheVariants.{OpenBrace, CloseBrace, OpenBraces}
use Rattle.bean_lexer.specs.declared.kind.Sign.TheVariants.{CloseBraces, At, AtAt, Tilde, Hash}

abbrev pub is_empty : List ℕ → Bool
is_empty [] = true
is_empty (b ∷ bs) = false

-- what may follow a backslash
abbrev pub is_escape : ℕ → Bool
is_escape b = (b == quote) || (b == backslash) || (b == letter_n) || (b == letter_t)

abbrev pub is_plain : ℕ → Bool
is_plain b = not (b == quote) && not (b == backslash)

-- the rest of a text behind its first quote, or behind a backslash in it
abbrev pub ends_text : Bool → List ℕ → Bool
ends_text escaped [] = false
ends_text true (b ∷ bs) = is_escape b && ends_text false bs
ends_text false (b ∷ bs) = if b == quote then is_empty bs else ends_text (b == backslash) bs

abbrev pub is_text : List ℕ → Bool
is_text [] = false
is_text (b ∷ bs) = (b == quote) && ends_text false bs

-- letters, digits and - _ / .
abbrev pub is_in_name : ℕ → Bool
is_in_name b =
    is_ascii_alphanumeric b || (b == dash) || (b == underscore) || (b == slash) || (b == point)

-- a sign, and a name of one or more characters
abbrev pub is_name_behind : ℕ → List ℕ → Bool
is_name_behind sign [] = false
is_name_behind sign (b ∷ bs) = (b == sign) && nat_lt 0 (length bs) && list_all is_in_name bs

abbrev pub is_tag : List ℕ → Bool
is_tag bs = is_name_behind hash bs

abbrev pub is_link : List ℕ → Bool
is_link bs = is_name_behind caret bs

-- letters, digits, - and _
abbrev pub is_in_key : ℕ → Bool
is_in_key b = is_ascii_alphanumeric b || (b == dash) || (b == underscore)

-- a small letter, and what goes on a key up to its colon
abbrev pub is_key : List ℕ → Bool
is_key bs =
    is_ascii_lowercase (slice_index bs 0) && list_all is_in_key (take (length bs - 1) bs)
    && (slice_index bs (length bs - 1) == colon)

abbrev pub keyword_spelling : Keyword → List ℕ
keyword_spelling Open = codes "open"
keyword_spelling Close = codes "close"
keyword_spelling Commodity = codes "commodity"
keyword_spelling Txn = codes "txn"
keyword_spelling Balance = codes "balance"
keyword_spelling Pad = codes "pad"
keyword_spelling Note = codes "note"
keyword_spelling Document = codes "document"
keyword_spelling Price = codes "price"
keyword_spelling Event = codes "event"
keyword_spelling Query = codes "query"
keyword_spelling Custom = codes "custom"
keyword_spelling Option = codes "option"
keyword_spelling Include = codes "include"
keyword_spelling Plugin = codes "plugin"
keyword_spelling PushTag = codes "pushtag"
keyword_spelling PopTag = codes "poptag"
keyword_spelling PushMeta = codes "pushmeta"
keyword_spelling PopMeta = codes "popmeta"
keyword_spelling True = codes "TRUE"
keyword_spelling False = codes "FALSE"

abbrev pub sign_spelling : Sign → List ℕ
sign_spelling Star = codes "*"
sign_spelling Bang = codes "!"
sign_spelling Comma = codes ","
sign_spelling Plus = codes "+"
sign_spelling Minus = codes "-"
sign_spelling OpenParenthesis = codes "("
sign_spelling CloseParenthesis = codes ")"
sign_spelling OpenBrace = codes "{"
sign_spelling CloseBrace = codes "}"
sign_spelling OpenBraces = codes "{{"
sign_spelling CloseBraces = codes "}}"
sign_spelling At = codes "@"
sign_spelling AtAt = codes "@@"
sign_spelling Tilde = codes "~"
sign_spelling Hash = codes "#"
