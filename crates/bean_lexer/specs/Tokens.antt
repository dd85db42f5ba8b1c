-- The tokens of a text. Fronts are taken of its bytes: in a text of whole characters the longest
-- front of a kind ends where a character ends, since only accounts have bytes past ASCII, and take
-- all of them.
use Rattle.std.specs.Prelude.{◌≡◌, ℕ, ◌+◌, ◌-◌, ◌<◌, ◌≤◌, ◌==◌, ◌⊎◌, Bool, true, false, List, []}
use Rattle.std.specs.Prelude.{◌∷◌, length, take, drop, count_by, nat_lt, ◌&&◌, if◌then◌else◌}
use Rattle.std.specs.List.{prefix_len}
use Rattle.bean_base.specs.Character.{quote, backslash, is_ascii, is_past_ascii}
use Rattle.bean_lexer.specs.KindForm.{is_of}
use Rattle.bean_lexer.specs.Gap.{is_line_feed, gap_from, place_behind}
use Rattle.bean_lexer.specs.declared.kind.Kind.{Kind}
use Rattle.bean_lexer.specs.declared.kind.Kind.TheVariants as kinds
use Rattle.bean_lexer.specs.declared.token.Token.{Token}

-- no front of more than n bytes is of the kind
abbrev pub NoneOf : Kind → List ℕ → ℕ → Type 0
NoneOf kind bs n = (m : ℕ) → n < m → m ≤ length bs → is_of kind (take m bs) ≡ false

-- no front of more than n bytes is of any kind
abbrev pub NoneLonger : List ℕ → ℕ → Type 0
NoneLonger bs n = (kind : Kind) → NoneOf kind bs n

-- the first n bytes are the longest front that is of a kind
pub record IsLongestToken (bs : List ℕ) (kind : Kind) (n : ℕ) : Type 0 where
  pub inside : n ≤ length bs
  pub of_kind : is_of kind (take n bs) ≡ true
  pub longest : NoneLonger bs n

-- how far a text reaches behind its first quote, or behind a backslash in it: its closing quote is
-- the last of it, and without one it reaches to the end
abbrev pub text_reach : Bool → List ℕ → ℕ
text_reach escaped [] = 0
text_reach true (b ∷ bs) = 1 + text_reach false bs
text_reach false (b ∷ bs) = if b == quote then 1 else 1 + text_reach (b == backslash) bs

-- a byte that goes on a character
abbrev pub goes_on_character : ℕ → Bool
goes_on_character b = is_past_ascii b && nat_lt b 192

-- the length of a fault token: that of a text, or of one character
abbrev pub fault_len : List ℕ → ℕ
fault_len [] = 0
fault_len (b ∷ bs) =
    if b == quote then 1 + text_reach false bs
    else if is_ascii b then 1
    else 1 + prefix_len goes_on_character bs

-- a fault, where no front is of a kind
pub record IsFaultToken (bs : List ℕ) (kind : Kind) (n : ℕ) : Type 0 where
  pub is_fault : kind ≡ kinds.Fault
  pub none : NoneLonger bs 0
  pub reach : n ≡ fault_len bs

-- the first n bytes are a token of the kind
abbrev pub IsToken : List ℕ → Kind → ℕ → Type 0
IsToken bs kind n = IsLongestToken bs kind n ⊎ IsFaultToken bs kind n

-- the line of a place in a text, from 1
abbrev pub line_at : List ℕ → ℕ → ℕ
line_at text at = 1 + count_by is_line_feed (take at text)

-- from the place `at` of the text on stand a gap and a token, and so on, up to a last gap
abbrev pub TokensFrom : List ℕ → ℕ → List Token → Type 0
TokensFrom text at [] = gap_from text at ≡ length text - at
TokensFrom text at (t ∷ ts) =
    (t.start ≡ at + gap_from text at)
    × (t.start < length text)
    × (t.place ≡ place_behind text at)
    × (t.line ≡ line_at text t.start)
    × (t.text ≡ take (length t.text) (drop t.start text))
    × IsToken (drop t.start text) t.kind (length t.text)
    × TokensFrom text (t.start + length t.text) ts

abbrev pub AreTokens : List ℕ → List Token → Type 0
AreTokens text tokens = TokensFrom text 0 tokens
