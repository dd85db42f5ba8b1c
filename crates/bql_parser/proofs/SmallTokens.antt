-- The tokens of a query of at most 65535 bytes are short, and no more than these.
use Rattle.std.proofs.Common.{ℕ, ◌-◌, ◌≤◌, ◌&&◌, Bool, true, false, List, []}
use Rattle.std.proofs.Common.{◌∷◌, length, IfSome}
use Rattle.std.proofs.Common.{drop, ap, arith, Option, Some, None, if◌then◌else◌}
use Rattle.std.specs.Prelude.{nat_eq, nat_le, slice_index, slice_range}
use Rattle.std.proofs.lemmas.List.{length-take, length-drop}
use Rattle.std.specs.List.{AllByRecursion, prefix_len, position_or_len}
use Rattle.std.specs.Char.{is_ascii_digit}
use Rattle.bean_base.specs.Character.{quote, apostrophe}
use Rattle.bql_lexer.specs.Kind.{word_kind}
use Rattle.bql_lexer.specs.Token.{behind_white, is_white, token_at, cut, fault, word_of, is_in_word}
use Rattle.bql_lexer.specs.Token.{begins_word, begins_with_day, number_len}
use Rattle.bql_lexer.specs.Token.{is_closed, text_or_fault, cut_or_fault, sign_of, sign_by}
use Rattle.bql_lexer.specs.Token.{sign_of_front}
use Rattle.bql_lexer.specs.Tokens.{TokensFrom}
use Rattle.bql_lexer.specs.declared.found.Found.{Found}
use Rattle.bql_lexer.specs.declared.kind.Kind.{Kind}
use Rattle.bql_lexer.specs.declared.kind.Kind.TheVariants as kinds
use Rattle.bql_lexer.specs.declared.token.Token.{Token}
use Rattle.bql_lexer.proofs.TokenFacts.{token_shortens}
use Rattle.bql_grammar.specs.Piece.{piece, is_cut}
use Rattle.bql_parser.specs.Small.{IsShort}

abbrev pub IsShortToken : Token → Type 0
IsShortToken t = IsShort t.text

-- tokens that are short, and no more of them than a query has bytes
pub record AreSmallTokens (ts : List Token) : Type 0 where
  pub short : AllByRecursion IsShortToken ts
  pub few : length ts ≤ 65535

pub behind_one : (t : Token) (ts : List Token) → AreSmallTokens (t ∷ ts) → AreSmallTokens ts
behind_one t ts all = let few = all.few in record { short = all.short.1; few = omega (arith, few) }

pub kind_by : (is : Bool) (t : Token) → IsShortToken t
    → IfSome (if is then Some t else None) IsShortToken
kind_by true t h = h
kind_by false t h = tt

-- ---- what is cut out of a text

piece_by : (is : Bool) (bs : List ℕ) (start end : ℕ) → IsShort bs
    → IsShort (if is then slice_range bs start end else [])
piece_by true bs start end h =
    let t = length-take (end - start) (drop start bs) in
    let d = length-drop start bs in
    omega (arith, h, t, d)
piece_by false bs start end h = omega arith

pub piece_short : (bs : List ℕ) (start end : ℕ) → IsShort bs → IsShort (piece bs start end)
piece_short bs start end h =
    piece_by (nat_le start end && is_cut bs start && is_cut bs end) bs start end h

-- ---- a token is no longer than what it stands in

abbrev IsWithin : List ℕ → Found → Type 0
IsWithin bs f = length f.text ≤ length bs

cut_within : (k : Kind) (n : ℕ) (bs : List ℕ) → IsWithin bs (cut k n bs)
cut_within k n bs = let l = length-take n bs in omega (arith, l)

fault_within : (bs : List ℕ) → IsWithin bs (fault bs)
fault_within bs = omega arith

choose : (bs : List ℕ) (t : Bool) (a b : Found) → IsWithin bs a → IsWithin bs b
    → IsWithin bs (if t then a else b)
choose bs true a b x y = x
choose bs false a b x y = y

text_within : (mark : ℕ) (bs : List ℕ) → IsWithin bs (text_or_fault mark bs)
text_within mark bs =
    let test : ℕ → Bool = λ b. nat_eq b mark in
    let l = length-take (position_or_len test (drop 1 bs)) (drop 1 bs) in
    let d = length-drop 1 bs in
    choose bs (is_closed mark (drop 1 bs)) _ (fault bs) (omega (arith, l, d)) (fault_within bs)

one_within : (bs : List ℕ) (o : Option Kind) → IsWithin bs (cut_or_fault 1 bs o)
one_within bs (Some k) = cut_within k 1 bs
one_within bs None = fault_within bs

sign_within : (bs : List ℕ) (o : Option Kind) → IsWithin bs (sign_by bs o)
sign_within bs (Some k) = cut_within k 2 bs
sign_within bs None = one_within bs (sign_of (slice_index bs 0))

token_within : (bs : List ℕ) → IsWithin bs (token_at bs)
token_within bs =
    let b = slice_index bs 0 in
    choose bs (begins_word b) _ _ (cut_within (word_kind (word_of bs)) (prefix_len is_in_word bs) bs)
    (choose bs (is_ascii_digit b) _ _
    (choose bs (begins_with_day bs) _ _ (cut_within kinds.Day 10 bs)
    (cut_within kinds.Number (number_len bs) bs))
    (choose bs (nat_eq b quote) _ _ (text_within quote bs)
    (choose bs (nat_eq b apostrophe) _ _ (text_within apostrophe bs)
    (sign_within bs (sign_of_front bs)))))

-- ---- the tokens of a text

tokens_short : (n : ℕ) (bs : List ℕ) (ts : List Token) → IsShort bs → TokensFrom n bs ts
    → AllByRecursion IsShortToken ts
tokens_short n bs [] h are = tt
tokens_short n bs (t ∷ ts) h are =
    let behind = behind_white bs in
    let d = length-drop (prefix_len is_white bs) bs in
    let w = token_within behind in
    let s = token_shortens behind are.0 in
    let e = ap length are.1.text in
    (omega (arith, h, d, w, e), tokens_short n (token_at behind).rest ts (omega (arith, h, d, s)) are.2)

tokens_few : (n : ℕ) (bs : List ℕ) (ts : List Token) → TokensFrom n bs ts → length ts ≤ length bs
tokens_few n bs [] are = omega arith
tokens_few n bs (t ∷ ts) are =
    let behind = behind_white bs in
    let d = length-drop (prefix_len is_white bs) bs in
    let s = token_shortens behind are.0 in
    let few = tokens_few n (token_at behind).rest ts are.2 in
    omega (arith, d, s, few)

pub small_tokens : (n : ℕ) (bs : List ℕ) (ts : List Token) → IsShort bs → TokensFrom n bs ts
    → AreSmallTokens ts
small_tokens n bs ts h are =
    let few = tokens_few n bs ts are in
    record { short = tokens_short n bs ts h are; few = omega (arith, h, few) }
