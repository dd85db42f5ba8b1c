-- An account, a currency or a truth value at the front.
use Rattle.std.proofs.Common.{◌≡◌, ℕ, ◌<◌, ◌≤◌, ◌&&◌, not, Bool, true, false, nat_eq, List, length}
use Rattle.std.proofs.Common.{get_or, take, arith, ap, ◌∙◌, refl, length-take-le, codes}
use Rattle.std.proofs.lemmas.Bool.Decides.{nat_tests}
use Rattle.std.proofs.lemmas.List.{get_or-take}
use Rattle.std.proofs.lemmas.List.Folds.{list_all_at}
use Rattle.std.specs.List.{list_all}
use Rattle.std.specs.Char.{is_ascii_uppercase, is_ascii_lowercase}
use Rattle.std.specs.Str.{bytes_eq}
use Rattle.bean_base.specs.Name.{is_account, is_currency, is_in_currency}
use Rattle.bean_lexer.specs.TokenForm.{keyword_spelling}
use Rattle.theory.specs.LongestFront.{IsLongestFront, HasNoFront}
use Rattle.bean_lexer.specs.Lookahead.{is_currency_form}
use Rattle.bean_lexer.specs.Tokens.{NoneOf, IsLongestToken}
use Rattle.bean_lexer.specs.declared.kind.Kind.TheVariants as kinds
use Rattle.bean_lexer.specs.declared.kind.Keyword.{Keyword}
use Rattle.bean_lexer.specs.declared.kind.Keyword.TheVariants as words
use Rattle.bean_lexer.proofs.FirstByteFacts.{is_truth, head_of, head_is, none_of, at_capital, if_of}
use Rattle.bean_lexer.proofs.WordFacts.{not_both, spelled}

-- truth values are written as currencies are
truth_form : (word : Keyword) → is_truth word ≡ true
    → is_currency_form (keyword_spelling word) ≡ true
truth_form words.True h = refl
truth_form words.False h = refl
truth_form _ h = absurd (cc)

small_apart : (word : Keyword) (b : ℕ) → is_truth word ≡ false → is_ascii_uppercase b ≡ true
    → nat_eq b (head_of word) ≡ false
small_apart word b t h =
    let u : is_ascii_lowercase (head_of word) ≡ true =
    if_of (is_truth word) (head_of word) t (head_is word) in
    grind (arith, nat_tests)

no_longer_word_by : (bs : List ℕ) (word : Keyword) (n m : ℕ) (t : Bool) → is_truth word ≡ t
    → is_ascii_uppercase (get_or bs 0 0) ≡ true → IsLongestFront is_currency_form bs n → n < m
    → m ≤ length bs → bytes_eq (take m bs) (keyword_spelling word) ≡ false
no_longer_word_by bs word n m true e capital front low high =
    not_both (bytes_eq (take m bs) (keyword_spelling word)) (λ is.
    let form =
    ap is_currency_form (spelled (take m bs) (keyword_spelling word) is) ∙ truth_form word e in
    let none = front.longest m low high in
    absurd (cc))
no_longer_word_by bs word n m false e capital front low high =
    none_of (kinds.Keyword word) bs 0 (small_apart word (get_or bs 0 0) e capital) m (omega arith)
    high

pub no_longer_word : (bs : List ℕ) (n : ℕ) (word : Keyword)
    → is_ascii_uppercase (get_or bs 0 0) ≡ true → IsLongestFront is_currency_form bs n
    → NoneOf (kinds.Keyword word) bs n
no_longer_word bs n word capital front =
    λ m low high. no_longer_word_by bs word n m (is_truth word) refl capital front low high

no_form : (xs : List ℕ) → is_currency_form xs ≡ false → is_currency xs ≡ false
no_form xs h =
    ap (λ t. t && not (bytes_eq xs (codes "TRUE")) && not (bytes_eq xs (codes "FALSE"))) h

is_form : (xs : List ℕ) → is_currency_form xs ≡ true → bytes_eq xs (codes "TRUE") ≡ false
    → bytes_eq xs (codes "FALSE") ≡ false → is_currency xs ≡ true
is_form xs h t f =
    ap (λ u. u && not (bytes_eq xs (codes "TRUE")) && not (bytes_eq xs (codes "FALSE"))) h
    ∙ ap (λ u. true && not u && not (bytes_eq xs (codes "FALSE"))) t ∙ ap (λ u. not u) f

pub truth_token : (bs : List ℕ) (n : ℕ) (word : Keyword) → is_ascii_uppercase (get_or bs 0 0) ≡ true
    → HasNoFront is_account bs → IsLongestFront is_currency_form bs n
    → bytes_eq (take n bs) (keyword_spelling word) ≡ true → IsLongestToken bs (kinds.Keyword word) n
truth_token bs n word capital account front is = record {
  inside = front.inside;
  of_kind = is;
  longest =
      at_capital bs n capital (λ m low high. account m high)
      (λ m low high. no_form (take m bs) (front.longest m low high))
      (λ w. no_longer_word bs n w capital front);
}

pub currency_token : (bs : List ℕ) (n : ℕ) → is_ascii_uppercase (get_or bs 0 0) ≡ true
    → HasNoFront is_account bs → IsLongestFront is_currency_form bs n
    → bytes_eq (take n bs) (codes "TRUE") ≡ false → bytes_eq (take n bs) (codes "FALSE") ≡ false
    → IsLongestToken bs kinds.Currency n
currency_token bs n capital account front t f = record {
  inside = front.inside;
  of_kind = is_form (take n bs) front.of_form t f;
  longest =
      at_capital bs n capital (λ m low high. account m high)
      (λ m low high. no_form (take m bs) (front.longest m low high))
      (λ w. no_longer_word bs n w capital front);
}

-- an account is longer than any currency at its front, since it has a colon
not_in : (xs : List ℕ) → list_all is_in_currency xs ≡ false → is_currency xs ≡ false
not_in xs h = grind (arith, nat_tests)

no_currency_past : (bs : List ℕ) (i m : ℕ) → get_or bs i 0 ≡ 58 → i < m → m ≤ length bs
    → is_currency (take m bs) ≡ false
no_currency_past bs i m colon low high =
    let l = length-take-le m bs high in
    not_in (take m bs)
    (list_all_at is_in_currency (take m bs) i 0 (omega arith)
    (ap is_in_currency (get_or-take m bs i 0 low) ∙ ap is_in_currency colon))

truth_len : (word : Keyword) → is_truth word ≡ true → length (keyword_spelling word) ≤ 5
truth_len words.True h = omega arith
truth_len words.False h = omega arith
truth_len _ h = absurd (cc)

no_word_past_by : (bs : List ℕ) (word : Keyword) (m : ℕ) (t : Bool) → is_truth word ≡ t
    → is_ascii_uppercase (get_or bs 0 0) ≡ true → 5 < m → m ≤ length bs
    → bytes_eq (take m bs) (keyword_spelling word) ≡ false
no_word_past_by bs word m true e capital low high =
    not_both (bytes_eq (take m bs) (keyword_spelling word)) (λ is.
    let s = ap length (spelled (take m bs) (keyword_spelling word) is) in
    let l = length-take-le m bs high in
    let t = truth_len word e in
    absurd (omega arith))
no_word_past_by bs word m false e capital low high =
    none_of (kinds.Keyword word) bs 0 (small_apart word (get_or bs 0 0) e capital) m (omega arith)
    high

pub account_token : (bs : List ℕ) (n i : ℕ) → is_ascii_uppercase (get_or bs 0 0) ≡ true
    → IsLongestFront is_account bs n → 7 < n → get_or bs i 0 ≡ 58 → i < n
    → IsLongestToken bs kinds.Account n
account_token bs n i capital account long colon past = record {
  inside = account.inside;
  of_kind = account.of_form;
  longest =
      at_capital bs n capital account.longest
      (λ m low high. no_currency_past bs i m colon (omega arith) high)
      (λ w m low high. no_word_past_by bs w m (is_truth w) refl capital (omega arith) high);
}
