-- What was found of a token is whole with its line feeds.
use Rattle.std.proofs.Common.{◌≡◌, ℕ, List, take, IsUtf8, sym, subst}
use Rattle.std.specs.List.{count_by}
use Rattle.std.specs.Str.{IsCharBoundary}
use Rattle.bean_lexer.specs.Gap.{is_line_feed}
use Rattle.bean_lexer.specs.Tokens.{IsToken}
use Rattle.bean_lexer.specs.declared.found.Counted.{Counted}
use Rattle.bean_lexer.specs.declared.kind.Kind.{Kind}
use Rattle.expected_tokens.specs.Found.{IsCounted}

pub counted : (bs : List ℕ) (kind : Kind) (n : ℕ) (found : Counted) → IsToken bs kind n
    → (IsUtf8 bs → IsCharBoundary bs n) → found.kind ≡ kind → found.len ≡ n
    → found.line_feeds ≡ count_by is_line_feed (take found.len bs) → IsCounted bs found
counted bs kind n found token boundary same_kind same_len feeds = record {
  token =
      subst (λ k. IsToken bs k found.len) (sym same_kind)
      (subst (λ m. IsToken bs kind m) (sym same_len) token);
  boundary = subst (λ m. IsUtf8 bs → IsCharBoundary bs m) (sym same_len) boundary;
  feeds = feeds;
}
