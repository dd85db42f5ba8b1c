-- No token but a text or a fault has a line feed.
use Rattle.std.proofs.Common.{◌≡◌, ℕ, ◌+◌, ◌-◌, ◌<◌, ◌||◌, ◌&&◌, cond, Bool, true, false, nat_eq}
use Rattle.std.proofs.Common.{nat_lt, List, [], ◌∷◌, ◌++◌, length, get_or, take, drop, arith, sym}
use Rattle.std.proofs.Common.{ap, ◌∙◌, refl, codes, ◌≢◌, eq-eqb}
use Rattle.std.proofs.lemmas.Bool.Decides.{nat_tests}
use Rattle.std.proofs.lemmas.List.{take-append-drop, drop_all}
use Rattle.std.proofs.lemmas.List.Sums.{sum_by-append, split_at_first, passes_at_first}
use Rattle.std.specs.List.{count_by, list_all, before_first, after_first, position_or_len}
use Rattle.std.specs.Str.{bytes_eq}
use Rattle.std.specs.Char.{is_ascii_digit}
use Rattle.bean_base.specs.Name.{is_root, is_account, is_colon, is_in_component, is_in_currency}
use Rattle.bean_base.specs.Name.{begins_component}
use Rattle.bean_base.specs.Day.{is_day_form}
use Rattle.bean_base.proofs.NumeralFacts.{drop_more}
use Rattle.bean_lexer.specs.TokenForm.{is_in_name, is_name_behind, is_in_key, is_key}
use Rattle.bean_lexer.specs.TokenForm.{keyword_spelling, sign_spelling}
use Rattle.bean_lexer.specs.KindForm.{is_of}
use Rattle.bean_lexer.specs.declared.kind.Kind.{Kind}
use Rattle.bean_lexer.specs.declared.kind.Kind.TheVariants as kinds
use Rattle.bean_lexer.specs.declared.kind.Keyword.{Keyword}
use Rattle.bean_lexer.specs.declared.kind.Keyword.TheVariants as words
use Rattle.bean_lexer.specs.declared.kind.Sign.{Sign}
use Rattle.bean_lexer.specs.declared.kind.Sign.TheVariants as signs
use Rattle.bean_lexer.specs.Gap.{is_line_feed}
use Rattle.bean_lexer.proofs.DayFacts.{year_digits, month_digits, day_digits, mark_of, second_mark}
use Rattle.bean_lexer.proofs.WordFacts.{spelled}
use Rattle.bean_lexer.proofs.AccountFacts.{are_names, behind_name, begin_step, in_step, colon_step}
use Rattle.bean_lexer.proofs.AccountFacts.{other_step, no_begin}
use Rattle.bean_lexer.proofs.OneListOfTokensFacts.{in_number, number_bytes, currency_parts}
use Rattle.bean_lexer.proofs.OneListOfTokensFacts.{two_true}

count_first : (b : ℕ) (bs : List ℕ) → is_line_feed b ≡ false → count_by is_line_feed bs ≡ 0
    → count_by is_line_feed (b ∷ bs) ≡ 0
count_first b bs h rest =
    sum_by-append (λ x. cond (is_line_feed x) 1 0) (b ∷ []) bs
    ∙ (λ i. (0 + cond (h i) 1 0) + rest i)

-- where no byte of a class is a line feed
pub none_in : (p : ℕ → Bool) → ((b : ℕ) → p b ≡ true → is_line_feed b ≡ false) → (bs : List ℕ)
    → list_all p bs ≡ true → count_by is_line_feed bs ≡ 0
none_in p out [] h = refl
none_in p out (b ∷ bs) h = let both = two_true (p b) (list_all p bs) h in
    count_first b bs (out b both.0) (none_in p out bs both.1)

number_out : (b : ℕ) → in_number b ≡ true → is_line_feed b ≡ false
number_out b h = grind (arith, nat_tests)

currency_out : (b : ℕ) → is_in_currency b ≡ true → is_line_feed b ≡ false
currency_out b h = grind (arith, nat_tests)

name_out : (b : ℕ) → is_in_name b ≡ true → is_line_feed b ≡ false
name_out b h = grind (arith, nat_tests)

key_out : (b : ℕ) → is_in_key b ≡ true → is_line_feed b ≡ false
key_out b h = grind (arith, nat_tests)

-- digits, dashes and slashes
abbrev in_day : ℕ → Bool
in_day b = is_ascii_digit b || nat_eq b 45 || nat_eq b 47

day_out : (b : ℕ) → in_day b ≡ true → is_line_feed b ≡ false
day_out b h = grind (arith, nat_tests)

abbrev in_account : ℕ → Bool
in_account b = is_in_component b || is_colon b

account_out : (b : ℕ) → in_account b ≡ true → is_line_feed b ≡ false
account_out b h = grind (arith, nat_tests)

digit_in_day : (b : ℕ) → is_ascii_digit b ≡ true → in_day b ≡ true
digit_in_day b h = grind (arith, nat_tests)

mark_in_day : (b c : ℕ) → nat_eq b c ≡ true → (nat_eq c 45 || nat_eq c 47) ≡ true → in_day b ≡ true
mark_in_day b c h m = grind (arith, nat_tests)

day_ten : (a b c d e f g h i j : ℕ)
    → is_day_form (a ∷ b ∷ c ∷ d ∷ e ∷ f ∷ g ∷ h ∷ i ∷ j ∷ []) ≡ true
    → list_all in_day (a ∷ b ∷ c ∷ d ∷ e ∷ f ∷ g ∷ h ∷ i ∷ j ∷ []) ≡ true
day_ten a b c d e f g h i j is =
    let year : list_all is_ascii_digit (a ∷ b ∷ c ∷ d ∷ []) ≡ true =
    year_digits (a ∷ b ∷ c ∷ d ∷ e ∷ f ∷ g ∷ h ∷ i ∷ j ∷ []) is in
    let month : list_all is_ascii_digit (f ∷ g ∷ []) ≡ true =
    month_digits (a ∷ b ∷ c ∷ d ∷ e ∷ f ∷ g ∷ h ∷ i ∷ j ∷ []) is in
    let day : list_all is_ascii_digit (i ∷ j ∷ []) ≡ true =
    day_digits (a ∷ b ∷ c ∷ d ∷ e ∷ f ∷ g ∷ h ∷ i ∷ j ∷ []) is in
    let mark : (nat_eq e 45 || nat_eq e 47) ≡ true =
    mark_of (a ∷ b ∷ c ∷ d ∷ e ∷ f ∷ g ∷ h ∷ i ∷ j ∷ []) is in
    let again : nat_eq h e ≡ true = second_mark (a ∷ b ∷ c ∷ d ∷ e ∷ f ∷ g ∷ h ∷ i ∷ j ∷ []) is in
    let y1 = two_true (is_ascii_digit a) (list_all is_ascii_digit (b ∷ c ∷ d ∷ [])) year in
    let y2 = two_true (is_ascii_digit b) (list_all is_ascii_digit (c ∷ d ∷ [])) y1.1 in
    let y3 = two_true (is_ascii_digit c) (list_all is_ascii_digit (d ∷ [])) y2.1 in
    let y4 = two_true (is_ascii_digit d) true y3.1 in
    let m1 = two_true (is_ascii_digit f) (list_all is_ascii_digit (g ∷ [])) month in
    let m2 = two_true (is_ascii_digit g) true m1.1 in
    let d1 = two_true (is_ascii_digit i) (list_all is_ascii_digit (j ∷ [])) day in
    let d2 = two_true (is_ascii_digit j) true d1.1 in
    let pa = digit_in_day a y1.0 in
    let pb = digit_in_day b y2.0 in
    let pc = digit_in_day c y3.0 in
    let pd = digit_in_day d y4.0 in
    let pe = mark_in_day e e (eq-eqb e e refl) mark in
    let pf = digit_in_day f m1.0 in
    let pg = digit_in_day g m2.0 in
    let ph = mark_in_day h e again mark in
    let pi = digit_in_day i d1.0 in
    let pj = digit_in_day j d2.0 in
    (λ k. pa k
    && (pb k && (pc k
    && (pd k && (pe k && (pf k && (pg k && (ph k && (pi k && (pj k && true))))))))))

day_bytes : (bs : List ℕ) → is_day_form bs ≡ true → list_all in_day bs ≡ true
day_bytes (a ∷ b ∷ c ∷ d ∷ e ∷ f ∷ g ∷ h ∷ i ∷ j ∷ []) is = day_ten a b c d e f g h i j is
day_bytes [] is = refl
day_bytes bs is = absurd (grind (arith, nat_tests))

named_count : (sign : ℕ) (bs : List ℕ) → is_line_feed sign ≡ false → is_name_behind sign bs ≡ true
    → count_by is_line_feed bs ≡ 0
named_count sign [] out h = refl
named_count sign (b ∷ bs) out h =
    let both = two_true (nat_eq b sign && nat_lt 0 (length bs)) (list_all is_in_name bs) h in
    let same : b ≡ sign = let s = two_true (nat_eq b sign) (nat_lt 0 (length bs)) both.0 in
    grind (arith, nat_tests) in
    count_first b bs (ap is_line_feed same ∙ out) (none_in is_in_name name_out bs both.1)

key_split : (bs : List ℕ) (n : ℕ) → n + 1 ≡ length bs → list_all is_in_key (take n bs) ≡ true
    → get_or bs n 0 ≡ 58 → count_by is_line_feed bs ≡ 0
key_split bs n len all colon =
    let rest : drop n bs ≡ get_or bs n 0 ∷ drop (n + 1) bs = drop_more n bs (omega arith) in
    let nothing : drop (n + 1) bs ≡ [] = drop_all (n + 1) bs (omega arith) in
    let last : drop n bs ≡ 58 ∷ [] = rest ∙ (λ i. colon i ∷ nothing i) in
    let front = none_in is_in_key key_out (take n bs) all in
    let whole : take n bs ++ drop n bs ≡ bs = take-append-drop n bs in
    sym (ap (count_by is_line_feed) whole)
    ∙ sum_by-append (λ x. cond (is_line_feed x) 1 0) (take n bs) (drop n bs)
    ∙ (λ i. front i + count_by is_line_feed (last i))

key_count : (bs : List ℕ) → is_key bs ≡ true → count_by is_line_feed bs ≡ 0
key_count [] h = refl
key_count (b ∷ bs) h =
    let all : list_all is_in_key (take (length (b ∷ bs) - 1) (b ∷ bs)) ≡ true =
    grind (arith, nat_tests) in
    let colon : get_or (b ∷ bs) (length (b ∷ bs) - 1) 0 ≡ 58 = grind (arith, nat_tests) in
    key_split (b ∷ bs) (length (b ∷ bs) - 1) (omega arith) all colon

false_or : (t : Bool) → t ≡ true → t ≡ false → ⊥
false_or t h g = absurd (cc)

names_begin : (b : ℕ) (bs : List ℕ) (t : Bool) → begins_component b ≡ t
    → (behind_name bs ≡ true → list_all in_account bs ≡ true) → are_names (b ∷ bs) ≡ true
    → (in_account b && list_all in_account bs) ≡ true
names_begin b bs true e rest h =
    let p : in_account b ≡ true = grind (arith, nat_tests) in
    let q = rest (sym (begin_step b bs e) ∙ h) in
    (λ i. p i && q i)
names_begin b bs false e rest h = absurd (false_or (are_names (b ∷ bs)) h (no_begin b bs e))

names_go_on : (b : ℕ) (bs : List ℕ) (t c : Bool) → is_in_component b ≡ t → nat_eq b 58 ≡ c
    → (behind_name bs ≡ true → list_all in_account bs ≡ true)
    → (are_names bs ≡ true → list_all in_account bs ≡ true) → behind_name (b ∷ bs) ≡ true
    → (in_account b && list_all in_account bs) ≡ true
names_go_on b bs true c e f rest begin h =
    let p : in_account b ≡ true = grind (arith, nat_tests) in
    let q = rest (sym (in_step b bs e) ∙ h) in
    (λ i. p i && q i)
names_go_on b bs false true e f rest begin h =
    let p : in_account b ≡ true = grind (arith, nat_tests) in
    let colon : b ≡ 58 = grind (arith, nat_tests) in
    let q = begin (sym (colon_step b bs colon) ∙ h) in
    (λ i. p i && q i)
names_go_on b bs false false e f rest begin h =
    absurd (false_or (behind_name (b ∷ bs)) h
    (other_step b bs e (let n : b ≢ 58 = grind (arith, nat_tests) in n)))

-- components and colons
names_bytes : (begin : Bool) (bs : List ℕ) → cond begin (are_names bs) (behind_name bs) ≡ true
    → list_all in_account bs ≡ true
names_bytes begin [] h = refl
names_bytes true (b ∷ bs) h = names_begin b bs (begins_component b) refl (names_bytes false bs) h
names_bytes false (b ∷ bs) h =
    names_go_on b bs (is_in_component b) (nat_eq b 58) refl refl (names_bytes false bs)
    (names_bytes true bs) h

root_by : (xs : List ℕ) (a l e i x : Bool) → bytes_eq xs (codes "Assets") ≡ a
    → bytes_eq xs (codes "Liabilities") ≡ l → bytes_eq xs (codes "Equity") ≡ e
    → bytes_eq xs (codes "Income") ≡ i → bytes_eq xs (codes "Expenses") ≡ x
    → (a || l || e || i || x) ≡ true → count_by is_line_feed xs ≡ 0
root_by xs true l e i x ha hl he hi hx is =
    ap (count_by is_line_feed) (spelled xs (codes "Assets") ha)
root_by xs false true e i x ha hl he hi hx is =
    ap (count_by is_line_feed) (spelled xs (codes "Liabilities") hl)
root_by xs false false true i x ha hl he hi hx is =
    ap (count_by is_line_feed) (spelled xs (codes "Equity") he)
root_by xs false false false true x ha hl he hi hx is =
    ap (count_by is_line_feed) (spelled xs (codes "Income") hi)
root_by xs false false false false true ha hl he hi hx is =
    ap (count_by is_line_feed) (spelled xs (codes "Expenses") hx)
root_by xs false false false false false ha hl he hi hx is = absurd (cc)

root_count : (xs : List ℕ) → is_root xs ≡ true → count_by is_line_feed xs ≡ 0
root_count xs is = root_by xs _ _ _ _ _ refl refl refl refl refl is

colon_out : (b : ℕ) → is_colon b ≡ true → is_line_feed b ≡ false
colon_out b h = grind (arith, nat_tests)

account_count : (bs : List ℕ) → is_account bs ≡ true → count_by is_line_feed bs ≡ 0
account_count bs h =
    let outer =
    two_true (is_root (before_first is_colon bs)
    && nat_lt (position_or_len is_colon bs) (length bs)) (are_names (after_first is_colon bs))
    h in
    let inner =
    two_true (is_root (before_first is_colon bs))
    (nat_lt (position_or_len is_colon bs) (length bs)) outer.0 in
    let low : position_or_len is_colon bs < length bs = let t = inner.1 in
    grind (arith, nat_tests) in
    let colon = passes_at_first is_colon bs 0 low in
    let whole = split_at_first is_colon bs 0 low in
    let names =
    none_in in_account account_out (after_first is_colon bs)
    (names_bytes true (after_first is_colon bs) outer.1) in
    let rest =
    count_first (get_or bs (position_or_len is_colon bs) 0) (after_first is_colon bs)
    (colon_out (get_or bs (position_or_len is_colon bs) 0) colon) names in
    let root = root_count (before_first is_colon bs) inner.0 in
    ap (count_by is_line_feed) whole
    ∙ sum_by-append (λ x. cond (is_line_feed x) 1 0) (before_first is_colon bs)
    (get_or bs (position_or_len is_colon bs) 0 ∷ after_first is_colon bs)
    ∙ (λ i. root i + rest i)

word_count : (word : Keyword) → count_by is_line_feed (keyword_spelling word) ≡ 0
word_count words.Open = refl
word_count _ = refl

sign_count : (sign : Sign) → count_by is_line_feed (sign_spelling sign) ≡ 0
sign_count signs.Star = refl
sign_count _ = refl

-- a kind whose tokens may have line feeds
abbrev pub may_span_lines : Kind → Bool
may_span_lines kinds.Text = true
may_span_lines kinds.Fault = true
may_span_lines _ = false

pub no_feeds : (kind : Kind) (bs : List ℕ) → may_span_lines kind ≡ false → is_of kind bs ≡ true
    → count_by is_line_feed bs ≡ 0
no_feeds kinds.Text bs out h = absurd (cc)
no_feeds kinds.Fault bs out h = absurd (cc)
no_feeds kinds.Day bs out h = none_in in_day day_out bs (day_bytes bs h)
no_feeds kinds.Number bs out h = none_in in_number number_out bs (number_bytes false bs h)
no_feeds kinds.Account bs out h = account_count bs h
no_feeds kinds.Currency bs out h = none_in is_in_currency currency_out bs (currency_parts bs h).0
no_feeds kinds.Tag bs out h = named_count 35 bs refl h
no_feeds kinds.Link bs out h = named_count 94 bs refl h
no_feeds kinds.Key bs out h = key_count bs h
no_feeds (kinds.Keyword word) bs out h =
    ap (count_by is_line_feed) (spelled bs (keyword_spelling word) h) ∙ word_count word
no_feeds (kinds.Sign sign) bs out h =
    ap (count_by is_line_feed) (spelled bs (sign_spelling sign) h) ∙ sign_count sign

pub spans_none : (kind : Kind) → (kind ≡ kinds.Text → ⊥) → (kind ≡ kinds.Fault → ⊥)
    → may_span_lines kind ≡ false
spans_none kinds.Text text fault = absurd (text refl)
spans_none kinds.Fault text fault = absurd (fault refl)
spans_none kinds.Day text fault = refl
spans_none _ text fault = refl
