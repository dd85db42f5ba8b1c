-- Where no key begins: what a word tells of the bytes behind it, and that it stays so further on.
use Rattle.std.proofs.Common.{◌≡◌, ℕ, zero, suc, ◌+◌, ◌-◌, ◌<◌, ◌≤◌, ◌&&◌, cond, Bool, true, false}
use Rattle.std.proofs.Common.{nat_eq, nat_lt, List, [], ◌∷◌, length, length-drop, get_or, drop, arith}
use Rattle.std.proofs.Common.{sym, ap, ◌∙◌, subst}
use Rattle.std.proofs.lemmas.Bool.Decides.{nat_tests}
use Rattle.std.proofs.lemmas.List.{drop-drop, get_or-drop}
use Rattle.std.specs.List.{prefix_len}
use Rattle.bean_lexer.specs.Lookahead.{has_colon}
use Rattle.bean_lexer.specs.NoKeys.{NoKeys}
use Rattle.bean_lexer.specs.TokenForm.{is_in_key}

run_cons : {A : Type 0} (p : A → Bool) (bs : List A) (at : ℕ) (t : Bool)
    → suc at ≤ cond t (1 + prefix_len p bs) 0
    → (at ≤ prefix_len p bs → at + prefix_len p (drop at bs) ≡ prefix_len p bs)
    → suc at + prefix_len p (drop at bs) ≡ cond t (1 + prefix_len p bs) 0
run_cons p bs at true h rest = let e = rest (omega arith) in omega arith
run_cons p bs at false h rest = absurd (omega arith)

-- a run ends where it ends, from wherever in it that is looked for
run_end : {A : Type 0} (p : A → Bool) (bs : List A) (at : ℕ) → at ≤ prefix_len p bs
    → at + prefix_len p (drop at bs) ≡ prefix_len p bs
run_end p bs zero h = omega arith
run_end p [] (suc at) h = absurd (omega arith)
run_end p (b ∷ bs) (suc at) h = run_cons p bs at (p b) h (run_end p bs at)

colon_further : (bs : List ℕ) (at n : ℕ) → has_colon (drop at bs) n ≡ has_colon bs (at + n)
colon_further bs at n =
    let l = length-drop at bs in
    let low : nat_lt n (length (drop at bs)) ≡ nat_lt (at + n) (length bs) = grind (arith, nat_tests) in
    ap (λ t. t && nat_eq (get_or (drop at bs) n 0) 58) low
    ∙ ap (λ b. nat_lt (at + n) (length bs) && nat_eq b 58) (get_or-drop at bs n 0)

-- a word that no colon follows
pub word_ends : (bs : List ℕ) (e left : ℕ) → e ≡ 0 + prefix_len is_in_key (drop 0 bs)
    → has_colon bs e ≡ false → left ≡ length bs - e → NoKeys bs left
word_ends bs e left is none rest = λ at more.
    let end = run_end is_in_key bs at (omega arith) in
    let same : at + prefix_len is_in_key (drop at bs) ≡ e = omega arith in
    colon_further bs at (prefix_len is_in_key (drop at bs)) ∙ ap (has_colon bs) same ∙ none

pub none_known : (bs : List ℕ) → NoKeys bs (length bs)
none_known bs = λ at more. absurd (omega arith)

pub no_keys_behind : (bs : List ℕ) (n left : ℕ) → NoKeys bs left → NoKeys (drop n bs) left
no_keys_behind bs n left none = λ at more.
    let l = length-drop n bs in
    subst (λ l. has_colon l (prefix_len is_in_key l) ≡ false) (sym (drop-drop at n bs))
    (none (n + at) (omega arith))

pub no_key_here : (bs : List ℕ) (left : ℕ) → NoKeys bs left → left < length bs
    → has_colon bs (prefix_len is_in_key bs) ≡ false
no_key_here bs left none more = none 0 (omega arith)
