-- A text has one list of tokens.
use Rattle.std.proofs.Common.{◌≡◌, ℕ, ◌+◌, ◌-◌, ◌<◌, IsTrue, ◌||◌, ◌&&◌, if◌then◌else◌, Bool}
use Rattle.std.proofs.Common.{true, false, nat_eq, nat_lt, List, [], ◌∷◌, Option, Some, option_map}
use Rattle.std.proofs.Common.{length, get_or, take, drop, arith, sym, ap, subst, ◌∙◌, refl, ⊎_elim}
use Rattle.std.proofs.Common.{inl, codes, length-drop}
use mathlib.Core.HLevel.{is_prop→PathP}
use Rattle.std.proofs.Math.Bool.{Bool-set}
use Rattle.std.proofs.str.Laws.{order}
use Rattle.std.proofs.lemmas.Bool.Decides.{nat_tests}
use Rattle.std.proofs.lemmas.List.{get_or_past}
use Rattle.std.proofs.lemmas.List.Sums.{passes_at_first}
use Rattle.std.proofs.lemmas.List.Folds.{list_all_at}
use Rattle.std.specs.List.{find, list_all, position_or_len, before_first, after_first, slice_split}
use Rattle.std.specs.Char.{is_ascii_digit, is_ascii_uppercase, is_ascii_lowercase}
use Rattle.std.specs.Str.{bytes_eq}
use Rattle.bean_base.specs.Numeral.{is_number, is_point, goes_on}
use Rattle.bean_base.specs.Name.{is_account, is_currency, is_in_currency, is_colon, is_root}
use Rattle.bean_base.specs.Name.{is_component}
use Rattle.bean_base.specs.Day.{is_day_form}
use Rattle.bean_lexer.specs.TokenForm.{is_text, is_tag, is_link, is_key, is_name_behind, is_in_name}
use Rattle.bean_lexer.specs.TokenForm.{keyword_spelling, sign_spelling}
use Rattle.bean_lexer.specs.KindForm.{is_of, may_be}
use Rattle.bean_lexer.specs.Lookahead.{sign_of, doubled_sign_of}
use Rattle.bean_lexer.specs.Tokens.{IsToken, IsLongestToken, IsFaultToken, TokensFrom, line_at}
use Rattle.bean_lexer.specs.OneListOfTokens.{HasOneListOfTokens}
use Rattle.bean_lexer.specs.declared.kind.TheConstants.{WORDS}
use Rattle.bean_lexer.specs.declared.kind.Kind.{Kind}
use Rattle.bean_lexer.specs.declared.kind.Kind.TheVariants as kinds
use Rattle.bean_lexer.specs.declared.kind.Keyword.{Keyword}
use Rattle.bean_lexer.specs.declared.kind.Keyword.TheVariants as words
use Rattle.bean_lexer.specs.declared.kind.Sign.{Sign}
use Rattle.bean_lexer.specs.declared.kind.Sign.TheVariants as signs
use Rattle.bean_lexer.specs.declared.token.Token.{Token}
use Rattle.bean_lexer.proofs.FirstByteFacts.{begins, may_begin}
use Rattle.bean_lexer.proofs.NumberFacts.{rest_of_number, whole_step}
use Rattle.bean_lexer.proofs.TokensFacts.{token_some, no_empty}
use Rattle.bean_lexer.proofs.WordFacts.{spelled, not_both}

-- the kind that some bytes can only be of
abbrev pub kind_of : List ℕ → Option Kind
kind_of xs =
    if is_ascii_digit (get_or xs 0 0) then
    (if nat_eq (get_or xs 4 0) 45 || nat_eq (get_or xs 4 0) 47 then Some kinds.Day else
    Some kinds.Number)
    else if nat_eq (get_or xs 0 0) 34 then Some kinds.Text
    else if is_ascii_uppercase (get_or xs 0 0) then (
    if nat_lt (position_or_len is_colon xs) (length xs) then Some kinds.Account
    else if bytes_eq xs (codes "TRUE") then Some (kinds.Keyword words.True)
    else if bytes_eq xs (codes "FALSE") then Some (kinds.Keyword words.False)
    else Some kinds.Currency)
    else if is_ascii_lowercase (get_or xs 0 0) then (
    if nat_eq (get_or xs (length xs - 1) 0) 58 then Some kinds.Key
    else option_map (λ word. kinds.Keyword word)
    (find (λ word. bytes_eq xs (keyword_spelling word)) WORDS))
    else if nat_eq (get_or xs 0 0) 35 then
    (if nat_lt 1 (length xs) then Some kinds.Tag else Some (kinds.Sign signs.Hash))
    else if nat_eq (get_or xs 0 0) 94 then Some kinds.Link
    else option_map (λ sign. kinds.Sign sign) (if nat_lt 1 (length xs) then
    doubled_sign_of (get_or xs 0 0) else sign_of (get_or xs 0 0))

yes : (t : Bool) (a b : Option Kind) → t ≡ true → (if t then a else b) ≡ a
yes true a b h = refl
yes false a b h = absurd (cc)

no : (t : Bool) (a b : Option Kind) → t ≡ false → (if t then a else b) ≡ b
no true a b h = absurd (cc)
no false a b h = refl

true_by : (t : Bool) → (t ≡ false → ⊥) → t ≡ true
true_by true h = refl
true_by false h = absurd (h refl)

first_is_cons : (kind : Kind) (b : ℕ) (bs : List ℕ) → is_of kind (b ∷ bs) ≡ true
    → may_begin kind b ≡ true
first_is_cons kind b bs h =
    true_by (may_begin kind b) (λ none. let no_such = begins kind b bs none in absurd (cc))

-- what is of a kind begins as it may
first_is : (kind : Kind) (xs : List ℕ) → is_of kind xs ≡ true
    → may_begin kind (get_or xs 0 0) ≡ true
first_is kind [] h = let none = no_empty kind in absurd (cc)
first_is kind (b ∷ bs) h = first_is_cons kind b bs h

abbrev pub in_number : ℕ → Bool
in_number b = is_ascii_digit b || nat_eq b 44 || nat_eq b 46

pub two_true : (a b : Bool) → (a && b) ≡ true → (a ≡ true) × (b ≡ true)
two_true true b h = (refl, h)
two_true false b h = absurd (cc)

digits_in : (bs : List ℕ) → list_all is_ascii_digit bs ≡ true → list_all in_number bs ≡ true
digits_in [] h = refl
digits_in (b ∷ bs) h =
    let p = two_true (is_ascii_digit b) (list_all is_ascii_digit bs) h in
    (λ i. (p.0 i || nat_eq b 44 || nat_eq b 46) && digits_in bs p.1 i)

goes_on_in : (after : Bool) (b : ℕ) → goes_on after b ≡ true → in_number b ≡ true
goes_on_in true b h = grind (arith, nat_tests)
goes_on_in false b h = grind (arith, nat_tests)

group : (a b c : Bool) → ((a && b) && c) ≡ true → (a ≡ true) × ((b && c) ≡ true)
group true b c h = (refl, h)
group false b c h = absurd (cc)

point_rest : (after : Bool) (bs : List ℕ) → rest_of_number after (46 ∷ bs) ≡ true
    → list_all is_ascii_digit bs ≡ true
point_rest true bs h = h
point_rest false bs h = absurd (cc)

number_by : (after : Bool) (b : ℕ) (bs : List ℕ) (t : Bool) → is_point b ≡ t
    → ((next : Bool) → rest_of_number next bs ≡ true → list_all in_number bs ≡ true)
    → rest_of_number after (b ∷ bs) ≡ true → (in_number b && list_all in_number bs) ≡ true
number_by after b bs true e rest h =
    let dot : b ≡ 46 = grind (arith, nat_tests) in
    let all = ap (λ c. rest_of_number after (c ∷ bs)) (sym dot) ∙ h in
    let p : in_number b ≡ true = ap in_number dot in
    (λ i. p i && digits_in bs (point_rest after bs all) i)
number_by after b bs false e rest h =
    let p = group (goes_on after b) _ _ (sym (whole_step after b bs e) ∙ h) in
    let q = goes_on_in after b p.0 in
    (λ i. q i && rest (is_ascii_digit b) p.1 i)

-- a number has digits, commas and points alone
pub number_bytes : (after : Bool) (xs : List ℕ) → rest_of_number after xs ≡ true
    → list_all in_number xs ≡ true
number_bytes after [] h = refl
number_bytes after (b ∷ bs) h =
    number_by after b bs (is_point b) refl (λ next. number_bytes next bs) h

no_mark_by : (xs : List ℕ) (t : Bool) → (nat_eq (get_or xs 4 0) 45 || nat_eq (get_or xs 4 0) 47) ≡ t
    → list_all in_number xs ≡ true → t ≡ false
no_mark_by xs false e h = refl
no_mark_by xs true e h =
    ⊎_elim (λ low.
    let bad : in_number (get_or xs 4 0) ≡ false = grind (arith, nat_tests) in
    let none = list_all_at in_number xs 4 0 low bad in
    absurd (cc))
    (λ past. let out : get_or xs 4 0 ≡ 0 = get_or_past xs 4 0 past in
    absurd (grind (arith, nat_tests))) (order 4 (length xs))

no_mark : (xs : List ℕ) → is_number xs ≡ true
    → (nat_eq (get_or xs 4 0) 45 || nat_eq (get_or xs 4 0) 47) ≡ false
no_mark xs h = no_mark_by xs _ refl (number_bytes false xs h)

of_day : (xs : List ℕ) → is_day_form xs ≡ true → kind_of xs ≡ Some kinds.Day
of_day xs h =
    let digit : is_ascii_digit (get_or xs 0 0) ≡ true = first_is kinds.Day xs h in
    let mark : (nat_eq (get_or xs 4 0) 45 || nat_eq (get_or xs 4 0) 47) ≡ true =
    grind (arith, nat_tests) in
    yes _ _ _ digit ∙ yes _ _ _ mark

of_number : (xs : List ℕ) → is_number xs ≡ true → kind_of xs ≡ Some kinds.Number
of_number xs h = yes _ _ _ (first_is kinds.Number xs h) ∙ no _ _ _ (no_mark xs h)

of_text : (xs : List ℕ) → is_text xs ≡ true → kind_of xs ≡ Some kinds.Text
of_text xs h =
    let quote = first_is kinds.Text xs h in
    let d : is_ascii_digit (get_or xs 0 0) ≡ false = grind (arith, nat_tests) in
    no _ _ _ d ∙ yes _ _ _ quote

capital_of : (xs : List ℕ) (a : Option Kind) → is_ascii_uppercase (get_or xs 0 0) ≡ true →
    (if nat_lt (position_or_len is_colon xs) (length xs) then Some kinds.Account
    else if bytes_eq xs (codes "TRUE") then Some (kinds.Keyword words.True)
    else if bytes_eq xs (codes "FALSE") then Some (kinds.Keyword words.False)
    else Some kinds.Currency) ≡ a → kind_of xs ≡ a
capital_of xs a capital h =
    let d : is_ascii_digit (get_or xs 0 0) ≡ false = grind (arith, nat_tests) in
    let q : nat_eq (get_or xs 0 0) 34 ≡ false = grind (arith, nat_tests) in
    no _ _ _ d ∙ no _ _ _ q ∙ yes _ _ _ capital ∙ h

pub middle : (a b c : Bool) → (a && b && c) ≡ true → b ≡ true
middle true true c h = refl
middle true false c h = absurd (cc)
middle false b c h = absurd (cc)

of_account : (xs : List ℕ) → is_account xs ≡ true → kind_of xs ≡ Some kinds.Account
of_account xs h =
    capital_of xs (Some kinds.Account) (first_is kinds.Account xs h)
    (yes _ _ _
    (middle (is_root (before_first is_colon xs))
    (nat_lt (position_or_len is_colon xs) (length xs))
    (list_all is_component (slice_split is_colon (after_first is_colon xs))) h))

colon_out : (b : ℕ) → is_colon b ≡ true → is_in_currency b ≡ false
colon_out b h = grind (arith, nat_tests)

no_colon_by : (xs : List ℕ) (t : Bool) → nat_lt (position_or_len is_colon xs) (length xs) ≡ t
    → list_all is_in_currency xs ≡ true → t ≡ false
no_colon_by xs false e h = refl
no_colon_by xs true e h =
    let low : position_or_len is_colon xs < length xs = grind (arith, nat_tests) in
    let colon = passes_at_first is_colon xs 0 low in
    let bad : is_in_currency (get_or xs (position_or_len is_colon xs) 0) ≡ false =
    colon_out (get_or xs (position_or_len is_colon xs) 0) colon in
    let none = list_all_at is_in_currency xs (position_or_len is_colon xs) 0 low bad in
    absurd (cc)

pub currency_parts : (xs : List ℕ) → is_currency xs ≡ true
    → (list_all is_in_currency xs ≡ true) × (bytes_eq xs (codes "TRUE") ≡ false)
    × (bytes_eq xs (codes "FALSE") ≡ false)
currency_parts xs h = (
  grind (arith, nat_tests),
  not_both _ (λ t. absurd (grind (arith, nat_tests))),
  not_both _
      (λ t. absurd (grind (arith, nat_tests))),
)

of_currency : (xs : List ℕ) → is_currency xs ≡ true → kind_of xs ≡ Some kinds.Currency
of_currency xs h =
    let parts = currency_parts xs h in
    capital_of xs (Some kinds.Currency) (first_is kinds.Currency xs h)
    (no _ _ _ (no_colon_by xs _ refl parts.0) ∙ no _ _ _ parts.1 ∙ no _ _ _ parts.2)

hash_of : (xs : List ℕ) → nat_eq (get_or xs 0 0) 35 ≡ true → nat_lt 1 (length xs) ≡ true
    → kind_of xs ≡ Some kinds.Tag
hash_of xs hash long =
    let d : is_ascii_digit (get_or xs 0 0) ≡ false = grind (arith, nat_tests) in
    let q : nat_eq (get_or xs 0 0) 34 ≡ false = grind (arith, nat_tests) in
    let u : is_ascii_uppercase (get_or xs 0 0) ≡ false = grind (arith, nat_tests) in
    let l : is_ascii_lowercase (get_or xs 0 0) ≡ false = grind (arith, nat_tests) in
    no _ _ _ d ∙ no _ _ _ q ∙ no _ _ _ u ∙ no _ _ _ l ∙ yes _ _ _ hash ∙ yes _ _ _ long

named_long : (sign : ℕ) (xs : List ℕ) → is_name_behind sign xs ≡ true → nat_lt 1 (length xs) ≡ true
named_long sign [] h = absurd (cc)
named_long sign (b ∷ bs) h = let some =
    middle (nat_eq b sign) (nat_lt 0 (length bs)) (list_all is_in_name bs) h in
    grind (arith, nat_tests)

of_tag : (xs : List ℕ) → is_tag xs ≡ true → kind_of xs ≡ Some kinds.Tag
of_tag xs h = hash_of xs (first_is kinds.Tag xs h) (named_long 35 xs h)

of_link : (xs : List ℕ) → is_link xs ≡ true → kind_of xs ≡ Some kinds.Link
of_link xs h =
    let caret = first_is kinds.Link xs h in
    let d : is_ascii_digit (get_or xs 0 0) ≡ false = grind (arith, nat_tests) in
    let q : nat_eq (get_or xs 0 0) 34 ≡ false = grind (arith, nat_tests) in
    let u : is_ascii_uppercase (get_or xs 0 0) ≡ false = grind (arith, nat_tests) in
    let l : is_ascii_lowercase (get_or xs 0 0) ≡ false = grind (arith, nat_tests) in
    let s : nat_eq (get_or xs 0 0) 35 ≡ false = grind (arith, nat_tests) in
    no _ _ _ d ∙ no _ _ _ q ∙ no _ _ _ u ∙ no _ _ _ l ∙ no _ _ _ s ∙ yes _ _ _ caret

of_key : (xs : List ℕ) → is_key xs ≡ true → kind_of xs ≡ Some kinds.Key
of_key xs h =
    let small = first_is kinds.Key xs h in
    let d : is_ascii_digit (get_or xs 0 0) ≡ false = grind (arith, nat_tests) in
    let q : nat_eq (get_or xs 0 0) 34 ≡ false = grind (arith, nat_tests) in
    let u : is_ascii_uppercase (get_or xs 0 0) ≡ false = grind (arith, nat_tests) in
    let colon : nat_eq (get_or xs (length xs - 1) 0) 58 ≡ true = grind (arith, nat_tests) in
    no _ _ _ d ∙ no _ _ _ q ∙ no _ _ _ u ∙ yes _ _ _ small ∙ yes _ _ _ colon

of_spelling : (word : Keyword) → kind_of (keyword_spelling word) ≡ Some (kinds.Keyword word)
of_spelling words.Open = refl
of_spelling _ = refl

of_sign_spelling : (sign : Sign) → kind_of (sign_spelling sign) ≡ Some (kinds.Sign sign)
of_sign_spelling signs.Star = refl
of_sign_spelling _ = refl

-- words, and signs, that are spelled alike are the same
pub one_keyword : (word other : Keyword) → keyword_spelling word ≡ keyword_spelling other
    → word ≡ other
one_keyword word other e = let a = of_spelling word in let b = of_spelling other in let same =
    ap kind_of e in cc

pub one_sign : (sign other : Sign) → sign_spelling sign ≡ sign_spelling other → sign ≡ other
one_sign sign other e = let a = of_sign_spelling sign in let b = of_sign_spelling other in
    let same = ap kind_of e in cc

pub is_only : (kind : Kind) (xs : List ℕ) → is_of kind xs ≡ true → kind_of xs ≡ Some kind
is_only kinds.Day xs h = of_day xs h
is_only kinds.Number xs h = of_number xs h
is_only kinds.Text xs h = of_text xs h
is_only kinds.Account xs h = of_account xs h
is_only kinds.Currency xs h = of_currency xs h
is_only kinds.Tag xs h = of_tag xs h
is_only kinds.Link xs h = of_link xs h
is_only kinds.Key xs h = of_key xs h
is_only (kinds.Keyword word) xs h =
    ap kind_of (spelled xs (keyword_spelling word) h) ∙ of_spelling word
is_only (kinds.Sign sign) xs h =
    ap kind_of (spelled xs (sign_spelling sign) h) ∙ of_sign_spelling sign
is_only kinds.Fault xs h = absurd (cc)

-- nothing is of two kinds
pub one_kind : (kind other : Kind) (xs : List ℕ) → is_of kind xs ≡ true → is_of other xs ≡ true
    → kind ≡ other
one_kind kind other xs h g = let a = is_only kind xs h in let b = is_only other xs g in cc

no_longer : (bs : List ℕ) (kind other : Kind) (n m : ℕ) → IsLongestToken bs kind n
    → IsLongestToken bs other m → n < m → ⊥
no_longer bs kind other n m t u low = let none = t.longest other m low u.inside in let is =
    u.of_kind in absurd (cc)

same_len : (bs : List ℕ) (kind other : Kind) (n m : ℕ) → IsLongestToken bs kind n
    → IsLongestToken bs other m → n ≡ m
same_len bs kind other n m t u =
    ⊎_elim (λ low. absurd (no_longer bs kind other n m t u low))
    (λ up. ⊎_elim (λ low. absurd (no_longer bs other kind m n u t low)) (λ down. let e : n ≡ m =
    omega arith in e) (order m n)) (order n m)

one_longest : (bs : List ℕ) (kind other : Kind) (n m : ℕ) → IsLongestToken bs kind n
    → IsLongestToken bs other m → (kind ≡ other) × (n ≡ m)
one_longest bs kind other n m t u =
    let len = same_len bs kind other n m t u in (
      one_kind kind other (take n bs) t.of_kind
          (ap (λ k. is_of other (take k bs)) len ∙ u.of_kind),
      len,
    )

no_longest : (bs : List ℕ) (kind other : Kind) (n m : ℕ) → 0 < length bs → IsLongestToken bs kind n
    → IsFaultToken bs other m → ⊥
no_longest bs kind other n m some t fault =
    let low = token_some bs kind n some (inl t) in
    let none = fault.none kind n low t.inside in
    let is = t.of_kind in
    absurd (cc)

-- at one place stands one token
pub one_token : (bs : List ℕ) (kind other : Kind) (n m : ℕ) → 0 < length bs → IsToken bs kind n
    → IsToken bs other m → (kind ≡ other) × (n ≡ m)
one_token bs kind other n m some t u =
    ⊎_elim
    (λ long. ⊎_elim (λ too. one_longest bs kind other n m long too)
    (λ fault. absurd (no_longest bs kind other n m some long fault)) u)
    (λ fault.
    ⊎_elim (λ long. absurd (no_longest bs other kind m n some long fault))
    (λ too. (fault.is_fault ∙ sym too.is_fault, fault.reach ∙ sym too.reach)) u) t

-- tokens of the same kind, place, bytes, start and line
same_token : (t u : Token) → t.kind ≡ u.kind → t.place ≡ u.place → t.text ≡ u.text
    → t.start ≡ u.start → t.line ≡ u.line → t ≡ u
same_token t u kind place text start line = λ i. record {
  text = text i;
  start = start i;
  line = line i;
  kind = kind i;
  place = place i;
  of_kind =
      is_prop→PathP (λ j. IsTrue (may_be (kind j) (text j))) (λ j. Bool-set _ _) t.of_kind u.of_kind
      i;
}

same_from : (text : List ℕ) (at : ℕ) (ts us : List Token) → TokensFrom text at ts
    → TokensFrom text at us → ts ≡ us
same_from text at [] [] from too = refl
same_from text at [] (u ∷ us) from too =
    let start = too.0 in
    let inside = too.1 in
    absurd (omega arith)
same_from text at (t ∷ ts) [] from too =
    let start = from.0 in
    let inside = from.1 in
    absurd (omega arith)
same_from text at (t ∷ ts) (u ∷ us) from too =
    let start : t.start ≡ u.start = from.0 ∙ sym too.0 in
    let inside = from.1 in
    let l = length-drop t.start text in
    let some : 0 < length (drop t.start text) = omega arith in
    let other : IsToken (drop t.start text) u.kind (length u.text) =
    subst (λ k. IsToken (drop k text) u.kind (length u.text)) (sym start) too.5 in
    let one =
    one_token (drop t.start text) t.kind u.kind (length t.text) (length u.text) some from.5
    other in
    let bytes : t.text ≡ u.text =
    from.4 ∙ (λ i. take (one.1 i) (drop (start i) text)) ∙ sym too.4 in
    let line : t.line ≡ u.line = from.3 ∙ ap (line_at text) start ∙ sym too.3 in
    let next : u.start + length u.text ≡ t.start + length t.text = omega (arith, one.1) in
    let first : t ≡ u = same_token t u one.0 (from.2 ∙ sym too.2) bytes start line in
    let more : ts ≡ us =
    same_from text (t.start + length t.text) ts us from.6
    (subst (λ k. TokensFrom text k us) next too.6) in
    (λ i. first i ∷ more i)

pub one_list : (text : List ℕ) → HasOneListOfTokens text
one_list text = λ ts us from too. same_from text 0 ts us from too
