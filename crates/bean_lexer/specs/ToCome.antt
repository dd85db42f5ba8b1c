-- What is still to come from a lexer.
use Rattle.std.specs.Prelude.{◌≡◌, ◌-◌, Bool, true, false, List, [], ◌∷◌, length}
use Rattle.bean_lexer.specs.Tokens.{TokensFrom}
use Rattle.bean_lexer.specs.declared.kind.Place.{Place}
use Rattle.bean_lexer.specs.declared.kind.Place.TheVariants.{ColumnOne, Indented, Inside}
use Rattle.bean_lexer.specs.declared.token.Token.{Token}
use Rattle.bean_lexer.specs.declared.lexer.Lexer.{Lexer}

-- the tokens of its text from the place on where its rest begins
abbrev pub ToCome : Lexer → List Token → Type 0
ToCome lexer ts = TokensFrom lexer.text.now (length lexer.text.now - length lexer.rest.now) ts

abbrev pub is_column_one : Place → Bool
is_column_one ColumnOne = true
is_column_one Indented = false
is_column_one Inside = false

-- no tokens, or tokens the first of which stands in the first column
abbrev pub BeginInColumnOne : List Token → Type 0
BeginInColumnOne [] = Unit {0}
BeginInColumnOne (t ∷ ts) = is_column_one t.place ≡ true

-- what is to come begins in the first column, if anything is
abbrev pub EndsLines : Lexer → Type 0
EndsLines lexer = (ts : List Token) → ToCome lexer ts → BeginInColumnOne ts
