-- What holds of the grammar and of texts, whatever the code.
use Rattle.std.specs.Prelude.{◌≡◌, ℕ, List}
use Rattle.bean_lexer.specs.declared.token.Token.{Token}
use Rattle.bean_parser.specs.Grammar.{Tree, HasTree}
use Rattle.bean_parser.specs.Parsed.{IsParsed}
use Rattle.bean_parser.specs.declared.parse.Parsed.{Parsed}

abbrev pub HasOneTree : List Token → Type 0
HasOneTree block = (t u : Tree) → HasTree block t → HasTree block u → t ≡ u

abbrev pub HasOneReading : List ℕ → Type 0
HasOneReading text = (p q : Parsed) → IsParsed text p → IsParsed text q → p ≡ q
