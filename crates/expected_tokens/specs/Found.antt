-- What was found at the front of a text.
use Rattle.std.specs.Prelude.{◌≡◌, ℕ, List, take, count_by}
use Rattle.std.specs.Str.{IsUtf8, IsCharBoundary}
use Rattle.bean_lexer.specs.Gap.{is_line_feed}
use Rattle.bean_lexer.specs.Tokens.{IsToken}
use Rattle.bean_lexer.specs.declared.found.Counted.{Counted}

-- a token, which ends where a character ends, and its line feeds
pub record IsCounted (bs : List ℕ) (found : Counted) : Type 0 where
  pub token : IsToken bs found.kind found.len
  pub boundary : IsUtf8 bs → IsCharBoundary bs found.len
  pub feeds : found.line_feeds ≡ count_by is_line_feed (take found.len bs)
