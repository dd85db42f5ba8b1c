-- The tokens of a query.
use Rattle.std.specs.Prelude.{◌≡◌, ℕ, ◌-◌, ◌<◌, List, [], ◌∷◌, length}
use Rattle.bql_lexer.specs.Token.{behind_white, token_at}
use Rattle.bql_lexer.specs.declared.found.Found.{Found}
use Rattle.bql_lexer.specs.declared.token.Token.{Token}

-- the token that stands before what is left of a query of a length
pub record IsToken (length_of_query : ℕ) (behind : List ℕ) (found : Found) (t : Token) :
    Type 0 where
  pub kind : t.kind ≡ found.kind
  pub text : t.text ≡ found.text
  pub start : t.start ≡ length_of_query - length behind
  pub end : t.end ≡ length_of_query - length found.rest

-- white space and a token, and so on, up to white space alone
abbrev pub TokensFrom : ℕ → List ℕ → List Token → Type 0
TokensFrom n bs [] = behind_white bs ≡ []
TokensFrom n bs (t ∷ ts) =
    (0 < length (behind_white bs))
    × IsToken n (behind_white bs) (token_at (behind_white bs)) t
    × TokensFrom n (token_at (behind_white bs)).rest ts

abbrev pub AreTokens : List ℕ → List Token → Type 0
AreTokens query tokens = TokensFrom (length query) query tokens
