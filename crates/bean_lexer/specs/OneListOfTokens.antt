-- A text has one list of tokens.
use Rattle.std.specs.Prelude.{◌≡◌, ℕ, List}
use Rattle.bean_lexer.specs.Tokens.{AreTokens}
use Rattle.bean_lexer.specs.declared.token.Token.{Token}

abbrev pub HasOneListOfTokens : List ℕ → Type 0
HasOneListOfTokens text = (ts us : List Token) → AreTokens text ts → AreTokens text us → ts ≡ us

-- and it has one
abbrev pub HasTokens : List ℕ → Type 0
HasTokens text = (ts : List Token) × AreTokens text ts
