-- Where tokens end, a character ends, and none is empty.
use Rattle.std.specs.Prelude.{slice_range}
use Rattle.std.proofs.Common.{◌≡◌, ℕ, ◌+◌, ◌-◌, ◌<◌, ◌≤◌, Bool, true, false, cond}
use Rattle.std.proofs.Common.{List, [], ◌∷◌, length, get_or, take, drop, nat_lt, nat_eq}
use Rattle.std.proofs.Common.{if◌then◌else◌, IsUtf8, Option, Some, None, arith, ap}
use Rattle.std.proofs.Common.{refl, ◌∙◌, length-drop, length-take-le, not}
use Rattle.std.proofs.lemmas.Bool.Decides.{nat_tests}
use Rattle.std.proofs.lemmas.List.{get_or-take, get_or-drop}
use Rattle.std.proofs.lemmas.List.Folds.{list_all_at}
use Rattle.std.proofs.lemmas.Str.{IsCharBoundary-after_ascii}
use Rattle.std.specs.Char.{is_ascii_digit}
use Rattle.std.specs.List.{prefix_len, after_first, list_all}
use Rattle.std.specs.Str.{IsCharBoundary}
use Rattle.bean_base.specs.Character.{quote, apostrophe}
use Rattle.bean_base.specs.Day.{is_day_form}
use Rattle.bql_lexer.specs.declared.found.Found.{Found}
use Rattle.bql_lexer.specs.declared.kind.Kind.{Kind}
use Rattle.bql_lexer.specs.declared.kind.Kind.TheVariants as kinds
use Rattle.bql_lexer.specs.Kind.{word_kind}
use Rattle.bql_lexer.specs.Token.{is_white, behind_white, is_in_word, begins_word, word_of}
use Rattle.bql_lexer.specs.Token.{has_decimals, whole_len, number_len, begins_with_day}
use Rattle.bql_lexer.specs.Token.{day_or_number, fault, is_closed, text_or_fault, sign_of}
use Rattle.bql_lexer.specs.Token.{sign_of_two, sign_of_front, cut, cut_or_fault, sign_by}
use Rattle.bql_lexer.specs.Token.{token_at}
use Rattle.byte_runs.proofs.RunFacts.{run_boundary, front_boundary}

pub white_is_ascii : (b : ℕ) → is_white b ≡ true → b < 128
white_is_ascii b h = grind (arith, nat_tests)

pub word_is_ascii : (b : ℕ) → is_in_word b ≡ true → b < 128
word_is_ascii b h = grind (arith, nat_tests)

pub digit_is_ascii : (b : ℕ) → is_ascii_digit b ≡ true → b < 128
digit_is_ascii b h = grind (arith, nat_tests)

point_is_ascii : (bs : List ℕ) (at : ℕ) → has_decimals bs at ≡ true
    → (at + 1 < length bs) × (get_or bs at 0 < 128)
point_is_ascii bs at h = (grind (arith, nat_tests), grind (arith, nat_tests))

number_boundary_by : (bs : List ℕ) (t : Bool) → has_decimals bs (whole_len bs) ≡ t → IsUtf8 bs
    → IsCharBoundary bs (if t then
    whole_len bs + 1 + prefix_len is_ascii_digit (drop (whole_len bs + 1) bs) else whole_len bs)
number_boundary_by bs true h utf8 =
    let p = point_is_ascii bs (whole_len bs) h in
    let inside = p.0 in
    run_boundary is_ascii_digit digit_is_ascii bs (whole_len bs + 1) utf8 (omega arith)
    (IsCharBoundary-after_ascii bs (whole_len bs) utf8 (omega arith) p.1)
number_boundary_by bs false h utf8 = let e :
    whole_len bs ≡ 0 + prefix_len is_ascii_digit (drop 0 bs) = omega arith in
    front_boundary is_ascii_digit digit_is_ascii bs (whole_len bs) utf8 e

pub number_boundary : (bs : List ℕ) → IsUtf8 bs → IsCharBoundary bs (number_len bs)
number_boundary bs utf8 = number_boundary_by bs (has_decimals bs (whole_len bs)) refl utf8

ninth_by : (bs : List ℕ) (t : Bool) → is_ascii_digit (get_or bs 9 0) ≡ t → 10 ≤ length bs
    → list_all is_ascii_digit (slice_range (take 10 bs) 8 10) ≡ true → t ≡ true
ninth_by bs true e long h = refl
ninth_by bs false e long h =
    let l = length-take-le 10 bs long in
    let d = length-drop 8 (take 10 bs) in
    let m = length-take-le 2 (drop 8 (take 10 bs)) (omega arith) in
    let same : get_or (slice_range (take 10 bs) 8 10) 1 0 ≡ get_or bs 9 0 =
    get_or-take 2 (drop 8 (take 10 bs)) 1 0 (omega arith) ∙ get_or-drop 8 (take 10 bs) 1 0
    ∙ get_or-take 10 bs 9 0 (omega arith) in
    let none =
    list_all_at is_ascii_digit (slice_range (take 10 bs) 8 10) 1 0 (omega arith)
    (ap is_ascii_digit same ∙ e) in
    absurd cc

ninth : (bs : List ℕ) → 10 ≤ length bs
    → list_all is_ascii_digit (slice_range (take 10 bs) 8 10) ≡ true
    → is_ascii_digit (get_or bs 9 0) ≡ true
ninth bs long h = ninth_by bs (is_ascii_digit (get_or bs 9 0)) refl long h

day_is : (bs : List ℕ) → begins_with_day bs ≡ true
    → (10 ≤ length bs) × (is_day_form (take 10 bs) ≡ true)
day_is bs h = (grind (arith, nat_tests), grind (arith, nat_tests))

last_is_digit : (bs : List ℕ) → is_day_form bs ≡ true
    → list_all is_ascii_digit (slice_range bs 8 10) ≡ true
last_is_digit bs h = grind (arith, nat_tests)

pub day_boundary : (bs : List ℕ) → begins_with_day bs ≡ true → IsUtf8 bs → IsCharBoundary bs 10
day_boundary bs h utf8 = let d = day_is bs h in
    IsCharBoundary-after_ascii bs 9 utf8 (omega (arith, d.0))
    (digit_is_ascii (get_or bs 9 0) (ninth bs d.0 (last_is_digit (take 10 bs) d.1)))

sign_is_ascii : (b : ℕ) (k : Kind) → sign_of b ≡ Some k → b < 128
sign_is_ascii b k h = grind (arith, nat_tests)

pub sign_boundary : (bs : List ℕ) (k : Kind) → 0 < length bs → sign_of (get_or bs 0 0) ≡ Some k
    → IsUtf8 bs → IsCharBoundary bs 1
sign_boundary bs k some h utf8 =
    IsCharBoundary-after_ascii bs 0 utf8 some (sign_is_ascii (get_or bs 0 0) k h)

two_is_ascii : (a b : ℕ) (k : Kind) → sign_of_two a b ≡ Some k → b < 128
two_is_ascii a b k h = grind (arith, nat_tests)

two_boundary_by : (bs : List ℕ) (k : Kind) (t : Bool) → nat_lt 1 (length bs) ≡ t
    → (if t then sign_of_two (get_or bs 0 0) (get_or bs 1 0) else None) ≡ Some k → IsUtf8 bs
    → IsCharBoundary bs 2
two_boundary_by bs k true low h utf8 =
    IsCharBoundary-after_ascii bs 1 utf8 (grind (arith, nat_tests))
    (two_is_ascii (get_or bs 0 0) (get_or bs 1 0) k h)
two_boundary_by bs k false low h utf8 = absurd cc

pub two_boundary : (bs : List ℕ) (k : Kind) → sign_of_front bs ≡ Some k → IsUtf8 bs
    → IsCharBoundary bs 2
two_boundary bs k h utf8 = two_boundary_by bs k (nat_lt 1 (length bs)) refl h utf8

-- Each token is some bytes.

first_by : (p : ℕ → Bool) (b : ℕ) (bs : List ℕ) (t : Bool) → p b ≡ t → t ≡ true
    → 0 < cond t (1 + prefix_len p bs) 0
first_by p b bs true h e = omega arith
first_by p b bs false h e = absurd cc

first_passes : (p : ℕ → Bool) (bs : List ℕ) → 0 < length bs → p (get_or bs 0 0) ≡ true
    → 0 < prefix_len p bs
first_passes p [] some h = absurd (omega (arith, some))
first_passes p (b ∷ bs) some h = first_by p b bs (p b) refl h

abbrev Shortens : List ℕ → Found → Type 0
Shortens bs f = length f.rest < length bs

cut_shortens : (k : Kind) (n : ℕ) (bs : List ℕ) → 0 < length bs → 0 < n → Shortens bs (cut k n bs)
cut_shortens k n bs some long = let l = length-drop n bs in omega arith

fault_shortens : (bs : List ℕ) → 0 < length bs → Shortens bs (fault bs)
fault_shortens bs some = some

choose : (bs : List ℕ) (t : Bool) (a b : Found) → (t ≡ true → Shortens bs a)
    → (t ≡ false → Shortens bs b) → Shortens bs (if t then a else b)
choose bs true a b x y = x refl
choose bs false a b x y = y refl

word_begins : (b : ℕ) → begins_word b ≡ true → is_in_word b ≡ true
word_begins b h = grind (arith, nat_tests)

number_is_long_by : (bs : List ℕ) (t : Bool) → 0 < whole_len bs
    → 0 < (if t then whole_len bs + 1 + prefix_len is_ascii_digit (drop (whole_len bs + 1) bs) else
    whole_len bs)
number_is_long_by bs true some = omega arith
number_is_long_by bs false some = some

behind_mark : (p : ℕ → Bool) (bs : List ℕ) → length (after_first p bs) ≤ length bs
behind_mark p bs = let l = length-drop (prefix_len (λ x. not (p x)) bs + 1) bs in omega arith

text_shortens : (mark : ℕ) (bs : List ℕ) → 0 < length bs → Shortens bs (text_or_fault mark bs)
text_shortens mark bs some =
    choose bs (is_closed mark (drop 1 bs)) _ (fault bs)
    (λ h. let l = length-drop 1 bs in let r = behind_mark (λ b. nat_eq b mark) (drop 1 bs) in
    omega arith)
    (λ h. fault_shortens bs some)

cut_or_fault_shortens : (bs : List ℕ) (o : Option Kind) → 0 < length bs
    → Shortens bs (cut_or_fault 1 bs o)
cut_or_fault_shortens bs (Some k) some = cut_shortens k 1 bs some (omega arith)
cut_or_fault_shortens bs None some = fault_shortens bs some

sign_shortens : (bs : List ℕ) (o : Option Kind) → 0 < length bs → Shortens bs (sign_by bs o)
sign_shortens bs (Some k) some = cut_shortens k 2 bs some (omega arith)
sign_shortens bs None some = cut_or_fault_shortens bs (sign_of (get_or bs 0 0)) some

digits_shorten : (bs : List ℕ) → 0 < length bs → is_ascii_digit (get_or bs 0 0) ≡ true
    → Shortens bs (day_or_number bs)
digits_shorten bs some h =
    choose bs (begins_with_day bs) _ _ (λ d. cut_shortens kinds.Day 10 bs some (omega arith))
    (λ d. cut_shortens kinds.Number (number_len bs) bs some
    (number_is_long_by bs (has_decimals bs (whole_len bs))
    (first_passes is_ascii_digit bs some h)))

pub token_shortens : (bs : List ℕ) → 0 < length bs → Shortens bs (token_at bs)
token_shortens bs some =
    let b = get_or bs 0 0 in
    choose bs (begins_word b) _ _
    (λ h. cut_shortens (word_kind (word_of bs)) (prefix_len is_in_word bs) bs some
    (first_passes is_in_word bs some (word_begins b h)))
    (λ h. choose bs (is_ascii_digit b) _ _ (λ h. digits_shorten bs some h)
    (λ h. choose bs (nat_eq b quote) _ _ (λ h. text_shortens quote bs some)
    (λ h. choose bs (nat_eq b apostrophe) _ _ (λ h. text_shortens apostrophe bs some)
    (λ h. sign_shortens bs (sign_of_front bs) some))))

pub rest_is_shorter : (bs behind rest : List ℕ) (found : Found) → behind ≡ behind_white bs
    → nat_eq (length behind) 0 ≡ false → found ≡ token_at behind → rest ≡ found.rest
    → length rest < length bs
rest_is_shorter bs behind rest found e some at is =
    let l = length-drop (prefix_len is_white bs) bs in
    let n = ap length e in
    let m : 0 < length behind = grind (arith, nat_tests) in
    let s = token_shortens behind m in
    let r = ap length is in
    let f = ap (λ f. length f.rest) at in
    omega arith
