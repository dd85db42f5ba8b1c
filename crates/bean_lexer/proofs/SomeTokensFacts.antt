-- A text has tokens.
use Rattle.std.proofs.Common.{◌≡◌, ℕ, zero, suc, ◌+◌, ◌-◌, ◌<◌, ◌≤◌, ◌^◌, ◌⊎◌, ⊎_elim, inl, inr, cond, Bool}
use Rattle.std.proofs.Common.{true, false, nat_eq, nat_lt, List, [], ◌∷◌, Option, Some, None, length}
use Rattle.std.proofs.Common.{take, drop, arith, sym, ap, subst, ◌∙◌, refl, length-drop}
use Rattle.std.proofs.Common.{length-take-le}
use Rattle.std.proofs.str.Laws.{order}
use Rattle.std.proofs.lemmas.List.Sums.{prefix_len-le-length}
use Rattle.bean_lexer.specs.KindForm.{is_of, may_be}
use Rattle.bean_lexer.specs.Gap.{gap_from, place_behind}
use Rattle.bean_lexer.specs.Tokens.{NoneLonger, IsToken, IsLongestToken, TokensFrom, line_at}
use Rattle.bean_lexer.specs.Tokens.{fault_len, text_reach, goes_on_character}
use Rattle.bean_lexer.specs.OneListOfTokens.{HasTokens}
use Rattle.bean_lexer.specs.declared.kind.Kind.{Kind}
use Rattle.bean_lexer.specs.declared.kind.Kind.TheVariants as kinds
use Rattle.bean_lexer.specs.declared.token.Token.{Token}
use Rattle.bean_lexer.proofs.BetweenFacts.{has_gaps}
use Rattle.bean_lexer.proofs.OneListOfTokensFacts.{kind_of, is_only}
use Rattle.bean_lexer.proofs.TokensFacts.{token_some}
use Rattle.bean_lexer.proofs.WordFacts.{not_both}

-- bytes are of a kind, or of none

abbrev OfSome : List ℕ → Type 0
OfSome xs = (kind : Kind) × (is_of kind xs ≡ true)

abbrev OfNone : List ℕ → Type 0
OfNone xs = (kind : Kind) → is_of kind xs ≡ false

by_test : (xs : List ℕ) (kind : Kind) (t : Bool) → kind_of xs ≡ Some kind → is_of kind xs ≡ t
    → OfSome xs ⊎ OfNone xs
by_test xs kind true e is = inl (kind, is)
by_test xs kind false e is = inr (λ other. not_both (is_of other xs) (λ too.
    let same : kind ≡ other = let o = is_only other xs too in cc in
    let both : false ≡ true = sym is ∙ ap (λ k. is_of k xs) same ∙ too in cc))

by_kind : (xs : List ℕ) (found : Option Kind) → kind_of xs ≡ found → OfSome xs ⊎ OfNone xs
by_kind xs None e = inr (λ kind. not_both (is_of kind xs) (λ is. let o = is_only kind xs is in
    absurd (cc)))
by_kind xs (Some kind) e = by_test xs kind (is_of kind xs) e refl

some_kind : (xs : List ℕ) → OfSome xs ⊎ OfNone xs
some_kind xs = by_kind xs (kind_of xs) refl

-- so there is a longest front that is of one, or none is

abbrev HasLongest : List ℕ → Type 0
HasLongest bs = (kind : Kind) × (n : ℕ) × IsLongestToken bs kind n

none_from : (bs : List ℕ) (n : ℕ) → OfNone (take (suc n) bs) → NoneLonger bs (suc n)
    → NoneLonger bs n
none_from bs n other none = λ kind m low high. ⊎_elim (λ more. none kind m more high) (λ least.
    let e : m ≡ suc n = omega arith in ap (λ k. is_of kind (take k bs)) e ∙ other kind)
    (order (suc n) m)

longest_by : (bs : List ℕ) (n : ℕ) → n ≤ length bs → NoneLonger bs n
    → HasLongest bs ⊎ NoneLonger bs 0
longest_by bs zero inside none = inr none
longest_by bs (suc n) inside none =
    ⊎_elim
    (λ is. inl (is.0, suc n, record { inside = inside; of_kind = is.1; longest = none }))
    (λ other. longest_by bs n (omega arith) (none_from bs n other none)) (some_kind (take (suc n) bs))

-- a fault token lies within the text

reach_by : (t : Bool) (n m : ℕ) → n ≤ m → cond t 1 (1 + n) ≤ 1 + m
reach_by true n m low = omega arith
reach_by false n m low = omega arith

reach_inside : (escaped : Bool) (bs : List ℕ) → text_reach escaped bs ≤ length bs
reach_inside escaped [] = omega arith
reach_inside true (b ∷ bs) = let low = reach_inside false bs in omega arith
reach_inside false (b ∷ bs) =
    let low = reach_by (nat_eq b 34) _ _ (reach_inside (nat_eq b 92) bs) in
    omega arith

fault_by : (q a : Bool) (n m l : ℕ) → n ≤ l → m ≤ l → cond q (1 + n) (cond a 1 (1 + m)) ≤ 1 + l
fault_by true a n m l low other = omega arith
fault_by false true n m l low other = omega arith
fault_by false false n m l low other = omega arith

fault_inside : (bs : List ℕ) → fault_len bs ≤ length bs
fault_inside [] = omega arith
fault_inside (b ∷ bs) =
    let low =
    fault_by (nat_eq b 34) (nat_lt b 128) _ _ _ (reach_inside false bs)
    (prefix_len-le-length goes_on_character bs) in
    omega arith

-- at each place before the end a token stands

abbrev HasToken : List ℕ → Type 0
HasToken bs = (kind : Kind) × (n : ℕ) × (n ≤ length bs) × IsToken bs kind n

some_token : (bs : List ℕ) → HasToken bs
some_token bs =
    ⊎_elim (λ t. (t.0, t.1, t.2.inside, inl t.2))
    (λ none. (
      kinds.Fault,
      fault_len bs,
      fault_inside bs,
      inr record {
        is_fault = refl;
        none = none;
        reach = refl;
      },
    ))
    (longest_by bs (length bs) (omega arith) (λ kind m low high. absurd (omega arith)))

kind_may_be : (kind : Kind) (xs : List ℕ) → is_of kind xs ≡ true → may_be kind xs ≡ true
kind_may_be kinds.Fault xs is = refl
kind_may_be kinds.Day xs is = is
kind_may_be _ xs is = is

token_may_be : (bs : List ℕ) (kind : Kind) (n : ℕ) → IsToken bs kind n
    → may_be kind (take n bs) ≡ true
token_may_be bs kind n token =
    ⊎_elim (λ long. kind_may_be kind (take n bs) long.of_kind)
    (λ fault. ap (λ k. may_be k (take n bs)) fault.is_fault) token

abbrev HasTokensFrom : List ℕ → ℕ → Type 0
HasTokensFrom text at = (ts : List Token) × TokensFrom text at ts

one_more : (text : List ℕ) (at start : ℕ) → length text < 2 ^ 64 → start ≡ at + gap_from text at
    → start < length text
    → ((n : ℕ) → 0 < n → start + n ≤ length text → HasTokensFrom text (start + n))
    → HasTokensFrom text at
one_more text at start small is low go =
    let bs = drop start text in
    let l = length-drop start text in
    let found = some_token bs in
    let n = found.1 in
    let inside = found.2 in
    let some = token_some bs found.0 n (omega arith) found.3 in
    let len : length (take n bs) ≡ n = length-take-le n bs inside in
    let rest = go n some (omega arith) in
    let token : Token = record {
      text = take n bs;
      start = start;
      line = line_at text start;
      kind = found.0;
      place = place_behind text at;
      of_kind = token_may_be bs found.0 n found.3;
    } in (
      token ∷ rest.0,
      (
        is,
        low,
        refl,
        refl,
        ap (λ k. take k bs) (sym len),
        subst (IsToken bs found.0) (sym len) found.3,
        subst (λ k. TokensFrom text (start + k) rest.0) (sym len) rest.1,
      ),
    )

from_place : (text : List ℕ) (room at : ℕ) → length text < 2 ^ 64 → at ≤ length text
    → length text ≤ at + room → HasTokensFrom text at
from_place text zero at small inside enough =
    let l = length-drop at text in
    let gap = (has_gaps text at inside).inside in
    let end : gap_from text at ≡ length text - at = omega arith in
    ([], end)
from_place text (suc room) at small inside enough =
    let l = length-drop at text in
    let gap = (has_gaps text at inside).inside in
    ⊎_elim (λ low. one_more text at (at + gap_from text at) small refl low
    (λ n some within.
    from_place text room (at + gap_from text at + n) small within (omega arith)))
    (λ up. let end : gap_from text at ≡ length text - at = omega arith in ([], end))
    (order (at + gap_from text at) (length text))

pub some_tokens : (text : List ℕ) → length text < 2 ^ 64 → HasTokens text
some_tokens text small = from_place text (length text) 0 small (omega arith) (omega arith)
