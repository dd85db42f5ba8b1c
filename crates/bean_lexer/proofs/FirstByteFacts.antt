-- With which bytes the tokens of a kind begin.
use Rattle.std.proofs.Common.{◌≡◌, ℕ, suc, ◌+◌, ◌-◌, ◌||◌, ◌&&◌, not, cond, Bool, true, false}
use Rattle.std.proofs.Common.{nat_eq, if◌then◌else◌, List, [], ◌∷◌, get_or, take, arith, ap, ◌∙◌}
use Rattle.std.proofs.Common.{refl}
use Rattle.std.proofs.lemmas.Bool.Decides.{nat_tests}
use Rattle.std.specs.List.{before_first, prefix_len}
use Rattle.std.specs.Str.{bytes_eq}
use Rattle.std.specs.Char.{is_ascii_digit, is_ascii_uppercase, is_ascii_lowercase}
use Rattle.bean_base.specs.Name.{is_account, is_currency, is_root, is_colon}
use Rattle.bean_base.specs.Day.{is_day_form}
use Rattle.bean_lexer.specs.TokenForm.{is_key, keyword_spelling, sign_spelling}
use Rattle.bean_lexer.specs.KindForm.{is_of}
use Rattle.bean_lexer.specs.Lookahead.{begins_other}
use Rattle.bean_lexer.specs.Tokens.{NoneOf, NoneLonger}
use Rattle.bean_lexer.specs.declared.kind.Kind.{Kind}
use Rattle.bean_lexer.specs.declared.kind.Kind.TheVariants as kinds
use Rattle.bean_lexer.specs.declared.kind.Keyword.{Keyword}
use Rattle.bean_lexer.specs.declared.kind.Keyword.TheVariants as words
use Rattle.bean_lexer.specs.declared.kind.Sign.{Sign}
use Rattle.bean_lexer.specs.declared.kind.Sign.TheVariants as signs
use Rattle.bean_lexer.proofs.NumberFacts.{begins_with_digit}

pub first_true : (a b : Bool) → (a && b) ≡ true → a ≡ true
first_true true b h = refl
first_true false b h = h

pub second_true : (a b : Bool) → (a && b) ≡ true → b ≡ true
second_true true b h = h
second_true false b h = absurd (cc)

-- the bytes with which a kind may begin
abbrev pub may_begin : Kind → ℕ → Bool
may_begin kinds.Day b = is_ascii_digit b
may_begin kinds.Number b = is_ascii_digit b
may_begin kinds.Text b = nat_eq b 34
may_begin kinds.Account b = is_ascii_uppercase b
may_begin kinds.Currency b = is_ascii_uppercase b
may_begin kinds.Tag b = nat_eq b 35
may_begin kinds.Link b = nat_eq b 94
may_begin kinds.Key b = is_ascii_lowercase b
may_begin (kinds.Keyword word) b = nat_eq b (get_or (keyword_spelling word) 0 0)
may_begin (kinds.Sign sign) b = nat_eq b (get_or (sign_spelling sign) 0 0)
may_begin kinds.Fault b = false

-- where a byte begins no token of a kind, none begins with it
day_begins : (b : ℕ) (bs : List ℕ) → is_ascii_digit b ≡ false → is_day_form (b ∷ bs) ≡ false
day_begins b bs h = grind (arith, nat_tests)

currency_begins : (b : ℕ) (bs : List ℕ) → is_ascii_uppercase b ≡ false
    → is_currency (b ∷ bs) ≡ false
currency_begins b bs h = grind (arith, nat_tests)

key_begins : (b : ℕ) (bs : List ℕ) → is_ascii_lowercase b ≡ false → is_key (b ∷ bs) ≡ false
key_begins b bs h = grind (arith, nat_tests)

root_begins : (b : ℕ) (bs : List ℕ) → is_ascii_uppercase b ≡ false → is_root (b ∷ bs) ≡ false
root_begins b bs h = grind (arith, nat_tests)

and_false : (a b c : Bool) → a ≡ false → (a && b && c) ≡ false
and_false a b c h = ap (λ t. t && b && c) h

root_of : (b : ℕ) (bs : List ℕ) (t : Bool) → is_colon b ≡ t → is_ascii_uppercase b ≡ false
    → is_root (take (cond (not t) (1 + prefix_len (λ x. not (is_colon x)) bs) 0) (b ∷ bs)) ≡ false
root_of b bs true e h = refl
root_of b bs false e h =
    let s : 1 + prefix_len (λ x. not (is_colon x)) bs
    ≡ suc (prefix_len (λ x. not (is_colon x)) bs) = omega arith in
    ap (λ n. is_root (take n (b ∷ bs))) s
    ∙ root_begins b (take (prefix_len (λ x. not (is_colon x)) bs) bs) h

account_begins : (b : ℕ) (bs : List ℕ) → is_ascii_uppercase b ≡ false → is_account (b ∷ bs) ≡ false
account_begins b bs h =
    and_false (is_root (before_first is_colon (b ∷ bs))) _ _ (root_of b bs (is_colon b) refl h)

spelled_begins : (b : ℕ) (bs cs : List ℕ) → nat_eq b (get_or cs 0 0) ≡ false
    → bytes_eq (b ∷ bs) cs ≡ false
spelled_begins b bs [] h = refl
spelled_begins b bs (c ∷ cs) h = ap (λ t. t && bytes_eq bs cs) h

pub begins : (kind : Kind) (b : ℕ) (bs : List ℕ) → may_begin kind b ≡ false
    → is_of kind (b ∷ bs) ≡ false
begins kinds.Day b bs h = day_begins b bs h
begins kinds.Number b bs h = begins_with_digit b bs h
begins kinds.Text b bs h = grind (arith, nat_tests)
begins kinds.Account b bs h = account_begins b bs h
begins kinds.Currency b bs h = currency_begins b bs h
begins kinds.Tag b bs h = grind (arith, nat_tests)
begins kinds.Link b bs h = grind (arith, nat_tests)
begins kinds.Key b bs h = key_begins b bs h
begins (kinds.Keyword word) b bs h = spelled_begins b bs (keyword_spelling word) h
begins (kinds.Sign sign) b bs h = spelled_begins b bs (sign_spelling sign) h
begins kinds.Fault b bs h = refl

none_of_cons : (kind : Kind) (b : ℕ) (bs : List ℕ) (n : ℕ) → may_begin kind b ≡ false
    → NoneOf kind (b ∷ bs) n
none_of_cons kind b bs n h m low high = let e : m ≡ suc (m - 1) = omega arith in
    ap (λ k. is_of kind (take k (b ∷ bs))) e ∙ begins kind b (take (m - 1) bs) h

pub none_of : (kind : Kind) (bs : List ℕ) (n : ℕ) → may_begin kind (get_or bs 0 0) ≡ false
    → NoneOf kind bs n
none_of kind [] n h m low high = absurd (omega arith)
none_of kind (b ∷ bs) n h m low high = none_of_cons kind b bs n h m low high

-- words of letters, in small ones but for truth values
abbrev pub is_truth : Keyword → Bool
is_truth words.True = true
is_truth words.False = true
is_truth _ = false

abbrev pub head_of : Keyword → ℕ
head_of word = get_or (keyword_spelling word) 0 0

pub head_is : (word : Keyword)
    → (if is_truth word then is_ascii_uppercase (head_of word) else
    is_ascii_lowercase (head_of word)) ≡ true
head_is words.True = refl
head_is words.Open = refl
head_is _ = refl

abbrev pub is_sign_byte : ℕ → Bool
is_sign_byte b =
    nat_eq b 42 || nat_eq b 33 || nat_eq b 44 || nat_eq b 43 || nat_eq b 45 || nat_eq b 40
    || nat_eq b 41 || nat_eq b 123 || nat_eq b 125 || nat_eq b 64 || nat_eq b 126

abbrev pub is_hash : Sign → Bool
is_hash signs.Hash = true
is_hash _ = false

pub sign_is : (sign : Sign)
    → (if is_hash sign then nat_eq (get_or (sign_spelling sign) 0 0) 35 else
    is_sign_byte (get_or (sign_spelling sign) 0 0)) ≡ true
sign_is signs.Hash = refl
sign_is signs.Star = refl
sign_is _ = refl

letter_of : (t : Bool) (c : ℕ) → (if t then is_ascii_uppercase c else is_ascii_lowercase c) ≡ true
    → (is_ascii_uppercase c || is_ascii_lowercase c) ≡ true
letter_of true c h = ap (λ u. u || is_ascii_lowercase c) h
letter_of false c h = grind (arith, nat_tests)

pub word_begins : (word : Keyword)
    → (is_ascii_uppercase (head_of word) || is_ascii_lowercase (head_of word)) ≡ true
word_begins word = letter_of (is_truth word) (head_of word) (head_is word)

signed_of : (t : Bool) (c : ℕ) → (if t then nat_eq c 35 else is_sign_byte c) ≡ true
    → (nat_eq c 35 || is_sign_byte c) ≡ true
signed_of true c h = ap (λ u. u || is_sign_byte c) h
signed_of false c h = grind (arith, nat_tests)

abbrev pub sign_head : Sign → ℕ
sign_head sign = get_or (sign_spelling sign) 0 0

pub sign_begins : (sign : Sign)
    → (nat_eq (sign_head sign) 35 || is_sign_byte (sign_head sign)) ≡ true
sign_begins sign = signed_of (is_hash sign) (sign_head sign) (sign_is sign)

-- bytes of different classes differ
letter_apart : (b c : ℕ) → (is_ascii_uppercase c || is_ascii_lowercase c) ≡ true
    → (is_ascii_uppercase b || is_ascii_lowercase b) ≡ false → nat_eq b c ≡ false
letter_apart b c h e = grind (arith, nat_tests)

signed_apart : (b c : ℕ) → (nat_eq c 35 || is_sign_byte c) ≡ true
    → (nat_eq b 35 || is_sign_byte b) ≡ false → nat_eq b c ≡ false
signed_apart b c h e = grind (arith, nat_tests)

no_word : (word : Keyword) (bs : List ℕ) (n : ℕ)
    → (is_ascii_uppercase (get_or bs 0 0) || is_ascii_lowercase (get_or bs 0 0)) ≡ false
    → NoneOf (kinds.Keyword word) bs n
no_word word bs n h =
    none_of (kinds.Keyword word) bs n
    (letter_apart (get_or bs 0 0) (head_of word) (word_begins word) h)

no_sign : (sign : Sign) (bs : List ℕ) (n : ℕ)
    → (nat_eq (get_or bs 0 0) 35 || is_sign_byte (get_or bs 0 0)) ≡ false
    → NoneOf (kinds.Sign sign) bs n
no_sign sign bs n h =
    none_of (kinds.Sign sign) bs n
    (signed_apart (get_or bs 0 0) (sign_head sign) (sign_begins sign) h)

-- at each class of first bytes, the kinds that are left
pub at_digit : (bs : List ℕ) (n : ℕ) → is_ascii_digit (get_or bs 0 0) ≡ true → NoneOf kinds.Day bs n
    → NoneOf kinds.Number bs n → NoneLonger bs n
at_digit bs n d day number kinds.Day = day
at_digit bs n d day number kinds.Number = number
at_digit bs n d day number kinds.Text = none_of kinds.Text bs n (grind (arith, nat_tests))
at_digit bs n d day number kinds.Account = none_of kinds.Account bs n (grind (arith, nat_tests))
at_digit bs n d day number kinds.Currency = none_of kinds.Currency bs n (grind (arith, nat_tests))
at_digit bs n d day number kinds.Tag = none_of kinds.Tag bs n (grind (arith, nat_tests))
at_digit bs n d day number kinds.Link = none_of kinds.Link bs n (grind (arith, nat_tests))
at_digit bs n d day number kinds.Key = none_of kinds.Key bs n (grind (arith, nat_tests))
at_digit bs n d day number (kinds.Keyword word) = no_word word bs n (grind (arith, nat_tests))
at_digit bs n d day number (kinds.Sign sign) = no_sign sign bs n (grind (arith, nat_tests))
at_digit bs n d day number kinds.Fault = none_of kinds.Fault bs n refl

pub at_quote : (bs : List ℕ) (n : ℕ) → get_or bs 0 0 ≡ 34 → NoneOf kinds.Text bs n → NoneLonger bs n
at_quote bs n q text kinds.Day = none_of kinds.Day bs n (grind (arith, nat_tests))
at_quote bs n q text kinds.Number = none_of kinds.Number bs n (grind (arith, nat_tests))
at_quote bs n q text kinds.Text = text
at_quote bs n q text kinds.Account = none_of kinds.Account bs n (grind (arith, nat_tests))
at_quote bs n q text kinds.Currency = none_of kinds.Currency bs n (grind (arith, nat_tests))
at_quote bs n q text kinds.Tag = none_of kinds.Tag bs n (grind (arith, nat_tests))
at_quote bs n q text kinds.Link = none_of kinds.Link bs n (grind (arith, nat_tests))
at_quote bs n q text kinds.Key = none_of kinds.Key bs n (grind (arith, nat_tests))
at_quote bs n q text (kinds.Keyword word) = no_word word bs n (grind (arith, nat_tests))
at_quote bs n q text (kinds.Sign sign) = no_sign sign bs n (grind (arith, nat_tests))
at_quote bs n q text kinds.Fault = none_of kinds.Fault bs n refl

pub at_capital : (bs : List ℕ) (n : ℕ) → is_ascii_uppercase (get_or bs 0 0) ≡ true
    → NoneOf kinds.Account bs n → NoneOf kinds.Currency bs n
    → ((word : Keyword) → NoneOf (kinds.Keyword word) bs n) → NoneLonger bs n
at_capital bs n d account currency word kinds.Day =
    none_of kinds.Day bs n (grind (arith, nat_tests))
at_capital bs n d account currency word kinds.Number =
    none_of kinds.Number bs n (grind (arith, nat_tests))
at_capital bs n d account currency word kinds.Text =
    none_of kinds.Text bs n (grind (arith, nat_tests))
at_capital bs n d account currency word kinds.Account = account
at_capital bs n d account currency word kinds.Currency = currency
at_capital bs n d account currency word kinds.Tag =
    none_of kinds.Tag bs n (grind (arith, nat_tests))
at_capital bs n d account currency word kinds.Link =
    none_of kinds.Link bs n (grind (arith, nat_tests))
at_capital bs n d account currency word kinds.Key =
    none_of kinds.Key bs n (grind (arith, nat_tests))
at_capital bs n d account currency word (kinds.Keyword w) = word w
at_capital bs n d account currency word (kinds.Sign sign) =
    no_sign sign bs n (grind (arith, nat_tests))
at_capital bs n d account currency word kinds.Fault = none_of kinds.Fault bs n refl

pub at_small : (bs : List ℕ) (n : ℕ) → is_ascii_lowercase (get_or bs 0 0) ≡ true
    → NoneOf kinds.Key bs n → ((word : Keyword) → NoneOf (kinds.Keyword word) bs n)
    → NoneLonger bs n
at_small bs n d key word kinds.Day = none_of kinds.Day bs n (grind (arith, nat_tests))
at_small bs n d key word kinds.Number = none_of kinds.Number bs n (grind (arith, nat_tests))
at_small bs n d key word kinds.Text = none_of kinds.Text bs n (grind (arith, nat_tests))
at_small bs n d key word kinds.Account = none_of kinds.Account bs n (grind (arith, nat_tests))
at_small bs n d key word kinds.Currency = none_of kinds.Currency bs n (grind (arith, nat_tests))
at_small bs n d key word kinds.Tag = none_of kinds.Tag bs n (grind (arith, nat_tests))
at_small bs n d key word kinds.Link = none_of kinds.Link bs n (grind (arith, nat_tests))
at_small bs n d key word kinds.Key = key
at_small bs n d key word (kinds.Keyword w) = word w
at_small bs n d key word (kinds.Sign sign) = no_sign sign bs n (grind (arith, nat_tests))
at_small bs n d key word kinds.Fault = none_of kinds.Fault bs n refl

pub at_hash : (bs : List ℕ) (n : ℕ) → get_or bs 0 0 ≡ 35 → NoneOf kinds.Tag bs n
    → ((sign : Sign) → NoneOf (kinds.Sign sign) bs n) → NoneLonger bs n
at_hash bs n d tag sign kinds.Day = none_of kinds.Day bs n (grind (arith, nat_tests))
at_hash bs n d tag sign kinds.Number = none_of kinds.Number bs n (grind (arith, nat_tests))
at_hash bs n d tag sign kinds.Text = none_of kinds.Text bs n (grind (arith, nat_tests))
at_hash bs n d tag sign kinds.Account = none_of kinds.Account bs n (grind (arith, nat_tests))
at_hash bs n d tag sign kinds.Currency = none_of kinds.Currency bs n (grind (arith, nat_tests))
at_hash bs n d tag sign kinds.Tag = tag
at_hash bs n d tag sign kinds.Link = none_of kinds.Link bs n (grind (arith, nat_tests))
at_hash bs n d tag sign kinds.Key = none_of kinds.Key bs n (grind (arith, nat_tests))
at_hash bs n d tag sign (kinds.Keyword word) = no_word word bs n (grind (arith, nat_tests))
at_hash bs n d tag sign (kinds.Sign s) = sign s
at_hash bs n d tag sign kinds.Fault = none_of kinds.Fault bs n refl

pub at_caret : (bs : List ℕ) (n : ℕ) → get_or bs 0 0 ≡ 94 → NoneOf kinds.Link bs n → NoneLonger bs n
at_caret bs n d link kinds.Day = none_of kinds.Day bs n (grind (arith, nat_tests))
at_caret bs n d link kinds.Number = none_of kinds.Number bs n (grind (arith, nat_tests))
at_caret bs n d link kinds.Text = none_of kinds.Text bs n (grind (arith, nat_tests))
at_caret bs n d link kinds.Account = none_of kinds.Account bs n (grind (arith, nat_tests))
at_caret bs n d link kinds.Currency = none_of kinds.Currency bs n (grind (arith, nat_tests))
at_caret bs n d link kinds.Tag = none_of kinds.Tag bs n (grind (arith, nat_tests))
at_caret bs n d link kinds.Link = link
at_caret bs n d link kinds.Key = none_of kinds.Key bs n (grind (arith, nat_tests))
at_caret bs n d link (kinds.Keyword word) = no_word word bs n (grind (arith, nat_tests))
at_caret bs n d link (kinds.Sign sign) = no_sign sign bs n (grind (arith, nat_tests))
at_caret bs n d link kinds.Fault = none_of kinds.Fault bs n refl

pub at_other : (bs : List ℕ) (n : ℕ) → begins_other (get_or bs 0 0) ≡ true
    → ((sign : Sign) → NoneOf (kinds.Sign sign) bs n) → NoneLonger bs n
at_other bs n d sign kinds.Day = none_of kinds.Day bs n (grind (arith, nat_tests))
at_other bs n d sign kinds.Number = none_of kinds.Number bs n (grind (arith, nat_tests))
at_other bs n d sign kinds.Text = none_of kinds.Text bs n (grind (arith, nat_tests))
at_other bs n d sign kinds.Account = none_of kinds.Account bs n (grind (arith, nat_tests))
at_other bs n d sign kinds.Currency = none_of kinds.Currency bs n (grind (arith, nat_tests))
at_other bs n d sign kinds.Tag = none_of kinds.Tag bs n (grind (arith, nat_tests))
at_other bs n d sign kinds.Link = none_of kinds.Link bs n (grind (arith, nat_tests))
at_other bs n d sign kinds.Key = none_of kinds.Key bs n (grind (arith, nat_tests))
at_other bs n d sign (kinds.Keyword word) = no_word word bs n (grind (arith, nat_tests))
at_other bs n d sign (kinds.Sign s) = sign s
at_other bs n d sign kinds.Fault = none_of kinds.Fault bs n refl

pub if_of : (t : Bool) (c : ℕ) → t ≡ false
    → (if t then is_ascii_uppercase c else is_ascii_lowercase c) ≡ true
    → is_ascii_lowercase c ≡ true
if_of true c e h = absurd (cc)
if_of false c e h = h
