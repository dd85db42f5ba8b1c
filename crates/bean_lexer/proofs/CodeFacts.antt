-- Three capitals in front of white space are a currency.
use Rattle.std.proofs.Common.{◌≡◌, ℕ, ◌+◌, ◌<◌, ◌≤◌, ◌||◌, ◌&&◌, not, cond, true, false}
use Rattle.std.proofs.Common.{nat_eq, List, ◌∷◌, ◌++◌, length, get_or, take, drop}
use Rattle.std.proofs.Common.{arith, ap, subst, codes, IsUtf8, length-take-le}
use Rattle.std.proofs.lemmas.Bool.Decides.{nat_tests}
use Rattle.std.specs.List.{prefix_len, starts_with}
use Rattle.std.specs.Char.{is_ascii_digit, is_ascii_uppercase}
use Rattle.std.specs.Str.{IsCharBoundary, bytes_eq}
use Rattle.bean_base.specs.Name.{is_in_currency}
use Rattle.theory.specs.LongestFront.{IsLongestFront}
use Rattle.bean_lexer.specs.Lookahead.{is_code, is_currency_form, root_len, has_bad_end}
use Rattle.bean_lexer.specs.Tokens.{IsLongestToken}
use Rattle.bean_lexer.specs.declared.kind.Kind.TheVariants as kinds
use Rattle.bean_lexer.proofs.WordFacts.{not_both, spelled}
use Rattle.bean_lexer.proofs.RootFacts.{starts_split, no_root_at}
use Rattle.bean_lexer.proofs.CurrencyFacts.{TrimsCurrency, reach_of, trim_starts, good_end}
use Rattle.bean_lexer.proofs.CurrencyFacts.{trim_boundary}
use Rattle.bean_lexer.proofs.CapitalFacts.{currency_token}

record Code (bs : List ℕ) : Type 0 where
  long : 3 < length bs
  first : is_ascii_uppercase (get_or bs 0 0) ≡ true
  second : is_ascii_uppercase (get_or bs 1 0) ≡ true
  third : is_ascii_uppercase (get_or bs 2 0) ≡ true
  behind : get_or bs 3 0 ≤ 32

code_parts : (bs : List ℕ) → is_code bs ≡ true → Code bs
code_parts bs h = record {
  long = grind (arith, nat_tests);
  first = grind (arith, nat_tests);
  second = grind (arith, nat_tests);
  third = grind (arith, nat_tests);
  behind = grind (arith, nat_tests);
}

capital_in : (b : ℕ) → is_ascii_uppercase b ≡ true → is_in_currency b ≡ true
capital_in b h = grind (arith, nat_tests)

white_out : (b : ℕ) → b ≤ 32 → is_in_currency b ≡ false
white_out b h = grind (arith, nat_tests)

code_reach : (bs : List ℕ) → Code bs → reach_of bs ≡ 3
code_reach (a ∷ b ∷ c ∷ d ∷ bs) code =
    let ha = capital_in a code.first in
    let hb = capital_in b code.second in
    let hc = capital_in c code.third in
    let hd = white_out d code.behind in
    let n : prefix_len is_in_currency (a ∷ b ∷ c ∷ d ∷ bs) ≡ 3 =
    (λ i. cond (ha i) (1 + cond (hb i) (1 + cond (hc i) (1 + cond (hd i)
    (1 + prefix_len is_in_currency bs) 0) 0) 0) 0) in
    omega arith
code_reach bs code = let l = code.long in absurd (omega arith)

code_trims : (bs : List ℕ) → Code bs → TrimsCurrency bs 3
code_trims bs code =
    let l = code.long in
    subst (TrimsCurrency bs) (code_reach bs code) (trim_starts bs (omega arith) code.first)

code_front : (bs : List ℕ) → Code bs → IsLongestFront is_currency_form bs 3
code_front bs code =
    let l = code.long in
    let good : has_bad_end bs 3 ≡ false =
    (λ i. true && not (code.third i || is_ascii_digit (get_or bs 2 0))) in
    good_end bs 3 (omega arith) code.first good (code_trims bs code)

-- the fourth byte of a root's name isn't white
not_at_front : (bs pre : List ℕ) → get_or bs 3 0 ≤ 32
    → ((rest : List ℕ) → 32 < get_or (pre ++ rest) 3 0) → starts_with nat_eq bs pre ≡ false
not_at_front bs pre white fourth =
    not_both (starts_with nat_eq bs pre) (λ h.
    let e : get_or bs 3 0 ≡ get_or (pre ++ drop (length pre) bs) 3 0 =
    ap (λ l. get_or l 3 0) (starts_split bs pre h) in
    let f = fourth (drop (length pre) bs) in
    absurd (omega arith))

code_root : (bs : List ℕ) → Code bs → root_len bs ≡ 0
code_root bs code =
    let a = not_at_front bs (codes "Assets:") code.behind (λ r. omega arith) in
    let l = not_at_front bs (codes "Liabilities:") code.behind (λ r. omega arith) in
    let e = not_at_front bs (codes "Equity:") code.behind (λ r. omega arith) in
    let i = not_at_front bs (codes "Income:") code.behind (λ r. omega arith) in
    let x = not_at_front bs (codes "Expenses:") code.behind (λ r. omega arith) in
    (λ k. cond (x k) 9 (cond (a k) 7 (cond (l k) 12 (cond (e k) 7 (cond (i k) 7 0)))))

not_spelled : (bs word : List ℕ) → Code bs → 3 < length word → bytes_eq (take 3 bs) word ≡ false
not_spelled bs word code long =
    not_both (bytes_eq (take 3 bs) word) (λ h.
    let inside = code.long in
    let s = ap length (spelled (take 3 bs) word h) in
    let l = length-take-le 3 bs (omega arith) in
    absurd (omega arith))

pub code_token : (bs : List ℕ) → is_code bs ≡ true → IsLongestToken bs kinds.Currency 3
code_token bs h = let code = code_parts bs h in
    currency_token bs 3 code.first (no_root_at bs (code_root bs code)) (code_front bs code)
    (not_spelled bs (codes "TRUE") code (omega arith))
    (not_spelled bs (codes "FALSE") code (omega arith))

pub code_boundary : (bs : List ℕ) → is_code bs ≡ true → IsUtf8 bs → IsCharBoundary bs 3
code_boundary bs h utf8 = trim_boundary bs 3 (code_trims bs (code_parts bs h)) utf8
