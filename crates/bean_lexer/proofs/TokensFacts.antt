-- The tokens of a text, one by one.
use Rattle.std.proofs.Common.{◌≡◌, ℕ, zero, suc, ◌+◌, ◌-◌, ◌<◌, ◌≤◌, ⊎_elim, cond, Bool, true}
use Rattle.std.proofs.Common.{false, nat_eq, nat_lt, List, [], ◌∷◌, length, take, drop, arith, sym}
use Rattle.std.proofs.Common.{ap, subst, ◌∙◌, refl, length-take-le, length-drop}
use Rattle.std.proofs.lemmas.List.{drop-drop}
use Rattle.std.proofs.lemmas.List.Sums.{sum_by-append}
use Rattle.std.proofs.Math.Seq.{take-add}
use Rattle.std.specs.List.{count_by, prefix_len}
use Rattle.bean_lexer.specs.KindForm.{is_of}
use Rattle.bean_lexer.specs.Gap.{is_line_feed, gap_len, behind_gap, place_of, spot_at}
use Rattle.bean_lexer.specs.Tokens.{IsToken, TokensFrom, line_at, fault_len, text_reach}
use Rattle.bean_lexer.specs.Tokens.{goes_on_character}
use Rattle.bean_lexer.specs.declared.kind.Kind.{Kind}
use Rattle.bean_lexer.specs.declared.kind.Kind.TheVariants as kinds
use Rattle.bean_lexer.specs.declared.kind.Keyword.{Keyword}
use Rattle.bean_lexer.specs.declared.kind.Keyword.TheVariants as words
use Rattle.bean_lexer.specs.declared.kind.Sign.{Sign}
use Rattle.bean_lexer.specs.declared.kind.Sign.TheVariants as signs
use Rattle.bean_lexer.specs.declared.gaps.Spot.{Spot}
use Rattle.bean_lexer.specs.declared.kind.Place.{Place}
use Rattle.bean_lexer.specs.declared.token.Token.{Token}

no_empty_word : (word : Keyword) → is_of (kinds.Keyword word) [] ≡ false
no_empty_word words.Open = refl
no_empty_word _ = refl

no_empty_sign : (sign : Sign) → is_of (kinds.Sign sign) [] ≡ false
no_empty_sign signs.Star = refl
no_empty_sign _ = refl

pub no_empty : (kind : Kind) → is_of kind [] ≡ false
no_empty (kinds.Keyword word) = no_empty_word word
no_empty (kinds.Sign sign) = no_empty_sign sign
no_empty kinds.Day = refl
no_empty _ = refl

longest_some : (bs : List ℕ) (kind : Kind) (n : ℕ) → is_of kind (take n bs) ≡ true → 0 < n
longest_some bs kind zero h = let none = no_empty kind in absurd (cc)
longest_some bs kind (suc n) h = omega arith

fault_by : (b : ℕ) (bs : List ℕ) (q a : Bool)
    → 0 < cond q (1 + text_reach false bs) (cond a 1 (1 + prefix_len goes_on_character bs))
fault_by b bs true a = omega arith
fault_by b bs false true = omega arith
fault_by b bs false false = omega arith

fault_some : (bs : List ℕ) (n : ℕ) → 0 < length bs → n ≡ fault_len bs → 0 < n
fault_some [] n some h = absurd (omega arith)
fault_some (b ∷ bs) n some h = let l = fault_by b bs (nat_eq b 34) (nat_lt b 128) in omega arith

-- a token has a byte
pub token_some : (bs : List ℕ) (kind : Kind) (n : ℕ) → 0 < length bs → IsToken bs kind n → 0 < n
token_some bs kind n some token =
    ⊎_elim (λ longest. longest_some bs kind n longest.of_kind)
    (λ fault. fault_some bs n some fault.reach) token

-- lines, from one place to a later one
pub feeds_add : (text : List ℕ) (at n : ℕ)
    → count_by is_line_feed (take (at + n) text)
    ≡ count_by is_line_feed (take at text) + count_by is_line_feed (take n (drop at text))
feeds_add text at n =
    ap (count_by is_line_feed) (take-add at n text)
    ∙ sum_by-append (λ x. cond (is_line_feed x) 1 0) (take at text) (take n (drop at text))

pub line_add : (text : List ℕ) (at n line feeds : ℕ) → line ≡ line_at text at
    → feeds ≡ count_by is_line_feed (take n (drop at text)) → line + feeds ≡ line_at text (at + n)
line_add text at n line feeds is count = let e = feeds_add text at n in omega arith

-- What a lexer keeps: what is still to be read of the text, and the line where it begins.
pub record IsAt (text rest : List ℕ) (line : ℕ) : Type 0 where
  pub inside : length rest ≤ length text
  pub is_rest : rest ≡ drop (length text - length rest) text
  pub is_line : line ≡ line_at text (length text - length rest)

-- A gap, a token's text and what stands behind them.
pub record Parts (rest : List ℕ) (gap : ℕ) (behind token : List ℕ) (n : ℕ) (after : List ℕ) :
    Type 0 where
  pub gap_inside : gap ≤ length rest
  pub behind_is : behind ≡ drop gap rest
  pub inside : n ≤ length behind
  pub token_is : token ≡ take n behind
  pub after_is : after ≡ drop n behind

-- The gap's line feeds, and those of the token.
pub record Feeds (rest token : List ℕ) (gap feeds more : ℕ) : Type 0 where
  pub of_gap : feeds ≡ count_by is_line_feed (take gap rest)
  pub of_token : more ≡ count_by is_line_feed token

behind_at : (text rest : List ℕ) (line gap : ℕ) (behind token : List ℕ) (n : ℕ) (after : List ℕ)
    → IsAt text rest line → Parts rest gap behind token n after
    → drop (length text - length behind) text ≡ behind
behind_at text rest line gap behind token n after at parts =
    let inside = at.inside in
    let gap_inside = parts.gap_inside in
    let length_behind = ap length parts.behind_is ∙ length-drop gap rest in
    let start : length text - length behind ≡ length text - length rest + gap = omega arith in
    ap (λ k. drop k text) start ∙ sym (drop-drop gap (length text - length rest) text)
    ∙ ap (drop gap) (sym at.is_rest) ∙ sym parts.behind_is

line_behind :
    (text rest : List ℕ) (line gap feeds more : ℕ) (behind token : List ℕ) (n : ℕ) (after : List ℕ)
    → IsAt text rest line → Parts rest gap behind token n after → Feeds rest token gap feeds more
    → line + feeds ≡ line_at text (length text - length behind)
line_behind text rest line gap feeds more behind token n after at parts count =
    let inside = at.inside in
    let gap_inside = parts.gap_inside in
    let length_behind = ap length parts.behind_is ∙ length-drop gap rest in
    let start : length text - length rest + gap ≡ length text - length behind = omega arith in
    line_add text (length text - length rest) gap line feeds at.is_line
    (count.of_gap ∙ ap (λ l. count_by is_line_feed (take gap l)) at.is_rest)
    ∙ ap (line_at text) start

-- a lexer is behind the token that it read
pub is_behind :
    (text rest : List ℕ) (line gap feeds more : ℕ) (behind token : List ℕ) (n : ℕ) (after : List ℕ)
    → IsAt text rest line → Parts rest gap behind token n after → Feeds rest token gap feeds more
    → IsAt text after (line + feeds + more)
is_behind text rest line gap feeds more behind token n after at parts count =
    let inside = at.inside in
    let gap_inside = parts.gap_inside in
    let n_inside = parts.inside in
    let length_behind = ap length parts.behind_is ∙ length-drop gap rest in
    let length_after = ap length parts.after_is ∙ length-drop n behind in
    let start = length text - length behind in
    let here = behind_at text rest line gap behind token n after at parts in
    let next : length text - length after ≡ start + n = omega arith in
    let after_at : drop (start + n) text ≡ after =
    sym (drop-drop n start text) ∙ ap (drop n) here ∙ sym parts.after_is in
    let token_line =
    line_behind text rest line gap feeds more behind token n after at parts count in
    record {
      inside = omega arith;
      is_rest = sym (ap (λ k. drop k text) next ∙ after_at);
      is_line =
          line_add text start n (line + feeds) more token_line
          (count.of_token ∙ ap (count_by is_line_feed) parts.token_is
          ∙ ap (λ l. count_by is_line_feed (take n l)) (sym here))
          ∙ ap (line_at text) (sym next);
    }

-- no token is to come where the gap is all that is left
pub none_to_come : (text rest : List ℕ) (line gap : ℕ) (behind : List ℕ) → IsAt text rest line
    → gap ≡ gap_len (spot_at (length text - length rest)) rest → gap ≤ length rest
    → behind ≡ drop gap rest → length behind ≡ 0
    → TokensFrom text (length text - length rest) []
none_to_come text rest line gap behind at is gap_inside behind_is empty =
    let spot = spot_at (length text - length rest) in
    let length_behind = ap length behind_is ∙ length-drop gap rest in
    let inside = at.inside in
    ap (gap_len spot) (sym at.is_rest) ∙ sym is
    ∙ (let e : gap ≡ length text - (length text - length rest) = omega arith in e)

-- what comes from a lexer is the token that it read, and then what comes behind it
pub token_to_come :
    (text rest : List ℕ) (line gap feeds more : ℕ) (end : Spot) (behind token : List ℕ)
    (kind : Kind) (place : Place) (n : ℕ) (after : List ℕ) →
    IsAt text rest line → Parts rest gap behind token n after → Feeds rest token gap feeds more
    → gap ≡ gap_len (spot_at (length text - length rest)) rest
    → end ≡ behind_gap (spot_at (length text - length rest)) rest →
    0 < length behind → IsToken behind kind n → place ≡ place_of end →
    (ts : List Token) → TokensFrom text (length text - length after) ts →
    (length text - length behind
    ≡ length text - length rest
    + gap_len (spot_at (length text - length rest)) (drop (length text - length rest) text))
    × (length text - length behind < length text)
    × (place ≡ place_of
    (behind_gap (spot_at (length text - length rest)) (drop (length text - length rest) text)))
    × (line + feeds ≡ line_at text (length text - length behind))
    × (token ≡ take (length token) (drop (length text - length behind) text))
    × IsToken (drop (length text - length behind) text) kind (length token)
    × TokensFrom text (length text - length behind + length token) ts
token_to_come text rest line gap feeds more end behind token kind place n after at parts count is
    end_is some is_token place_is ts to_come =
    let spot = spot_at (length text - length rest) in
    let inside = at.inside in
    let gap_inside = parts.gap_inside in
    let n_inside = parts.inside in
    let length_behind = ap length parts.behind_is ∙ length-drop gap rest in
    let length_after = ap length parts.after_is ∙ length-drop n behind in
    let length_token : length token ≡ n =
    ap length parts.token_is ∙ length-take-le n behind parts.inside in
    let start : length text - length behind ≡ length text - length rest + gap = omega arith in
    let here = behind_at text rest line gap behind token n after at parts in
    let next : length text - length after ≡ length text - length behind + length token =
    omega arith in (
      start ∙ ap (λ k. length text - length rest + k) (is ∙ ap (gap_len spot) at.is_rest),
      omega arith,
      place_is ∙ ap place_of (end_is ∙ ap (behind_gap spot) at.is_rest),
      line_behind text rest line gap feeds more behind token n after at parts count,
      parts.token_is ∙ ap (take n) (sym here)
          ∙ ap (λ k. take k (drop (length text - length behind) text)) (sym length_token),
      subst (λ k. IsToken (drop (length text - length behind) text) kind k) (sym length_token)
          (subst (λ l. IsToken l kind n) (sym here) is_token),
      subst (λ k. TokensFrom text k ts) next to_come,
    )

-- the place of a token behind a gap
pub place_to_come :
    (text rest : List ℕ) (line : ℕ) (place : Place) (t : Token) (ts : List Token) → IsAt text rest line
    → place ≡ place_of (behind_gap (spot_at (length text - length rest)) rest)
    → TokensFrom text (length text - length rest) (t ∷ ts) → t.place ≡ place
place_to_come text rest line place t ts at is to_come =
    to_come.2 ∙ ap (λ l. place_of (behind_gap (spot_at (length text - length rest)) l)) (sym at.is_rest)
    ∙ sym is

-- no token stands behind a gap that is all that is left
pub none_behind :
    (text rest : List ℕ) (line gap : ℕ) (t : Token) (ts : List Token) → IsAt text rest line
    → gap ≡ gap_len (spot_at (length text - length rest)) rest → length rest ≤ gap
    → TokensFrom text (length text - length rest) (t ∷ ts) → ⊥
none_behind text rest line gap t ts at is all to_come =
    let inside = at.inside in
    let start = to_come.0 in
    let low = to_come.1 in
    let same = ap (gap_len (spot_at (length text - length rest))) at.is_rest in
    omega (arith, inside, start, low, same, is, all)
