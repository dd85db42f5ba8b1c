-- The tokens of a text are no longer than the text, stand on no later line than it has bytes, and
-- are no more than these.
use Rattle.std.proofs.Common.{◌≡◌, ℕ, ◌+◌, ◌-◌, ◌<◌, ◌≤◌, ◌&&◌, Bool, true, false, IsTrue, nat_le}
use Rattle.std.proofs.Common.{List, [], ◌∷◌, length, take, drop, ap, arith, refl}
use Rattle.std.proofs.lemmas.Bool.{leb-true}
use Rattle.std.proofs.lemmas.List.{length-take, length-drop}
use Rattle.std.proofs.lemmas.List.Sums.{count_by-le-length}
use Rattle.std.specs.List.{AllByRecursion}
use Rattle.bean_base.specs.Name.{is_currency}
use Rattle.bean_lexer.specs.Gap.{is_line_feed, gap_from}
use Rattle.bean_lexer.specs.KindForm.{may_be}
use Rattle.bean_lexer.specs.Tokens.{TokensFrom, line_at}
use Rattle.bean_lexer.specs.declared.kind.Kind as kinds
use Rattle.bean_lexer.specs.declared.kind.Kind.TheVariants as kind
use Rattle.bean_lexer.specs.declared.token.Token.{Token}
use Rattle.bean_lexer.proofs.TokensFacts.{token_some}
use Rattle.bean_grammar.specs.Lexeme.{lexeme_at, lexemes}
use Rattle.bean_directives.specs.SmallPart.{most, IsShort, IsShortCurrency}
use Rattle.bean_parser.proofs.ShortFacts.{drop_short, take_short}
use Rattle.bean_parser.proofs.SmallLineFacts.{IsShortLexeme}

abbrev pub IsShortToken : Token → Type 0
IsShortToken t = IsShort t.text × (t.line ≤ most)

second_true : (a b c d e f : Bool) → (a && b && c && d && e && f) ≡ true → b ≡ true
second_true true true c d e f h = refl
second_true true false c d e f h = absurd (cc)
second_true false b c d e f h = absurd (cc)

-- by its form
currency_short : (bs : List ℕ) → is_currency bs ≡ true → IsShortCurrency bs
currency_short bs is =
    leb-true (length bs) 24 (second_true (nat_le 1 (length bs)) (nat_le (length bs) 24) _ _ _ _ is)

slice_short : (text slice : List ℕ) (n at : ℕ) → IsShort text → slice ≡ take n (drop at text)
    → IsShort slice
slice_short text slice n at h is =
    let e = ap length is in
    let l = length-take n (drop at text) in
    let d = length-drop at text in
    omega arith

line_short : (text : List ℕ) (at line : ℕ) → IsShort text → at < length text
    → line ≡ line_at text at → line ≤ most
line_short text at line h inside is =
    let c = count_by-le-length is_line_feed (take at text) in
    let l = length-take at text in
    omega arith

pub tokens_short : (text : List ℕ) (at : ℕ) (ts : List Token) → IsShort text
    → TokensFrom text at ts → AllByRecursion IsShortToken ts
tokens_short text at [] h are = tt
tokens_short text at (t ∷ ts) h are = (
  (
    slice_short text t.text (length t.text) t.start h are.4,
    line_short text t.start t.line h are.1 are.3,
  ),
  tokens_short text (t.start + length t.text) ts h are.6,
)

-- each token has a byte
pub tokens_few : (text : List ℕ) (at : ℕ) (ts : List Token) → TokensFrom text at ts
    → length ts ≤ length text - at
tokens_few text at [] are = omega arith
tokens_few text at (t ∷ ts) are =
    let d = length-drop t.start text in
    let inside : t.start < length text = are.1 in
    let begins : t.start ≡ at + gap_from text at = are.0 in
    let some = token_some (drop t.start text) t.kind (length t.text) (omega arith) are.5 in
    let rest = tokens_few text (t.start + length t.text) ts are.6 in
    omega arith

lexeme_short : (k : kinds.Kind) (bs : List ℕ) → IsShort bs → IsTrue (may_be k bs)
    → IsShortLexeme (lexeme_at k bs)
lexeme_short kind.Day bs h is = tt
lexeme_short kind.Number bs h is = tt
lexeme_short kind.Text bs h is = h
lexeme_short kind.Account bs h is = h
lexeme_short kind.Currency bs h is = currency_short bs is
lexeme_short kind.Tag bs h is = drop_short 1 bs h
lexeme_short kind.Link bs h is = drop_short 1 bs h
lexeme_short kind.Key bs h is = take_short (length bs - 1) bs h
lexeme_short (kind.Keyword k) bs h is = tt
lexeme_short (kind.Sign s) bs h is = tt
lexeme_short kind.Fault bs h is = tt

pub lexemes_short : (ts : List Token) → AllByRecursion IsShortToken ts
    → AllByRecursion IsShortLexeme (lexemes ts)
lexemes_short [] all = tt
lexemes_short (t ∷ ts) all = (lexeme_short t.kind t.text all.0.0 t.of_kind, lexemes_short ts all.1)

pub lexemes_same : (ts : List Token) → length (lexemes ts) ≡ length ts
lexemes_same [] = omega arith
lexemes_same (t ∷ ts) = let e = lexemes_same ts in omega arith
