-- What the grammar sees of a token: what it is, with what it holds, and not where it stands.
use Rattle.std.specs.Prelude.{ℕ, ◌-◌, Bool, true, false, List, [], ◌∷◌, length, take, drop}
use Rattle.std.specs.Str.{bytes_eq}
use Rattle.bean_lexer.specs.TokenForm.{keyword_spelling, sign_spelling}
use Rattle.bean_lexer.specs.declared.kind.Kind as kinds
use Rattle.bean_lexer.specs.declared.kind.Kind.TheVariants as kind
use Rattle.bean_lexer.specs.declared.kind.Keyword as keywords
use Rattle.bean_lexer.specs.declared.kind.Sign as signs
use Rattle.bean_lexer.specs.declared.kind.Sign.TheVariants as mark
use Rattle.bean_lexer.specs.declared.token.Token.{Token}

-- a tag and a link hold their names without their sign, a key its name without its colon
pub data Lexeme : Type 0 where
  Day : List ℕ → Lexeme
  Number : List ℕ → Lexeme
  Text : List ℕ → Lexeme
  Account : List ℕ → Lexeme
  Currency : List ℕ → Lexeme
  Tag : List ℕ → Lexeme
  Link : List ℕ → Lexeme
  Key : List ℕ → Lexeme
  Keyword : keywords.Keyword → Lexeme
  Sign : signs.Sign → Lexeme
  Fault : Lexeme

abbrev pub lexeme_at : kinds.Kind → List ℕ → Lexeme
lexeme_at kind.Day bs = Day bs
lexeme_at kind.Number bs = Number bs
lexeme_at kind.Text bs = Text bs
lexeme_at kind.Account bs = Account bs
lexeme_at kind.Currency bs = Currency bs
lexeme_at kind.Tag bs = Tag (drop 1 bs)
lexeme_at kind.Link bs = Link (drop 1 bs)
lexeme_at kind.Key bs = Key (take (length bs - 1) bs)
lexeme_at (kind.Keyword k) bs = Keyword k
lexeme_at (kind.Sign s) bs = Sign s
lexeme_at kind.Fault bs = Fault

abbrev pub lexeme_of : Token → Lexeme
lexeme_of t = lexeme_at t.kind t.text

abbrev pub lexemes : List Token → List Lexeme
lexemes [] = []
lexemes (t ∷ ts) = lexeme_of t ∷ lexemes ts

abbrev pub begins_with_day : List Lexeme → Bool
begins_with_day (Day bs ∷ rest) = true
begins_with_day rest = false

abbrev pub begins_with_number : List Lexeme → Bool
begins_with_number (Number bs ∷ rest) = true
begins_with_number rest = false

abbrev pub begins_with_text : List Lexeme → Bool
begins_with_text (Text bs ∷ rest) = true
begins_with_text rest = false

abbrev pub begins_with_account : List Lexeme → Bool
begins_with_account (Account bs ∷ rest) = true
begins_with_account rest = false

abbrev pub begins_with_currency : List Lexeme → Bool
begins_with_currency (Currency bs ∷ rest) = true
begins_with_currency rest = false

abbrev pub begins_with_tag : List Lexeme → Bool
begins_with_tag (Tag bs ∷ rest) = true
begins_with_tag rest = false

abbrev pub begins_with_link : List Lexeme → Bool
begins_with_link (Link bs ∷ rest) = true
begins_with_link rest = false

abbrev pub begins_with_key : List Lexeme → Bool
begins_with_key (Key bs ∷ rest) = true
begins_with_key rest = false

-- a word, and a sign, is told by how it is spelled
abbrev pub same_keyword : keywords.Keyword → keywords.Keyword → Bool
same_keyword a b = bytes_eq (keyword_spelling a) (keyword_spelling b)

abbrev pub begins_with_keyword : keywords.Keyword → List Lexeme → Bool
begins_with_keyword k (Keyword l ∷ rest) = same_keyword l k
begins_with_keyword k rest = false

abbrev pub same_sign : signs.Sign → signs.Sign → Bool
same_sign a b = bytes_eq (sign_spelling a) (sign_spelling b)

abbrev pub begins_with_sign : signs.Sign → List Lexeme → Bool
begins_with_sign s (Sign t ∷ rest) = same_sign t s
begins_with_sign s rest = false

-- the sign of a number: true where it is a minus
abbrev pub plus_or_minus : Bool → Lexeme
plus_or_minus false = Sign mark.Plus
plus_or_minus true = Sign mark.Minus

abbrev pub begins_with_plus_or_minus : List Lexeme → Bool
begins_with_plus_or_minus (Sign mark.Plus ∷ rest) = true
begins_with_plus_or_minus (Sign mark.Minus ∷ rest) = true
begins_with_plus_or_minus rest = false
