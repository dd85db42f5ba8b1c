-- Tags, links and keys at the front.
use Rattle.std.proofs.Common.{◌≡◌, ◌≢◌, ℕ, zero, suc, ◌+◌, ◌-◌, ◌<◌, ◌≤◌, ◌&&◌, Bool, true, false}
use Rattle.std.proofs.Common.{nat_eq, nat_lt, List, [], ◌∷◌, length, get_or, take, drop, arith, sym}
use Rattle.std.proofs.Common.{ap, subst, ◌∙◌, refl, length-take-le, IsUtf8, ⊎_elim}
use Rattle.std.proofs.str.Laws.{order}
use Rattle.std.proofs.lemmas.Bool.Decides.{nat_tests}
use Rattle.std.proofs.lemmas.List.{get_or-take, take-take}
use Rattle.std.proofs.lemmas.List.Sums.{prefix_len_passes}
use Rattle.std.proofs.lemmas.Str.{IsCharBoundary-after_ascii}
use Rattle.std.specs.List.{list_all, prefix_len}
use Rattle.std.specs.Char.{is_ascii_lowercase}
use Rattle.std.specs.Str.{IsCharBoundary}
use Rattle.bean_lexer.specs.TokenForm.{is_name_behind, is_in_name, is_key, is_in_key}
use Rattle.theory.specs.LongestFront.{IsLongestFront, HasNoFront}
use Rattle.theory.proofs.LongestFrontFacts.{front_cons, all_front}
use Rattle.byte_runs.proofs.RunFacts.{run_boundary}

abbrev pub is_name : List ℕ → Bool
is_name bs = nat_lt 0 (length bs) && list_all is_in_name bs

behind_sign : (sign b : ℕ) → b ≡ sign → (more : List ℕ)
    → is_name_behind sign (b ∷ more) ≡ is_name more
behind_sign sign b h more = let e : nat_eq b sign ≡ true = grind (arith, nat_tests) in
    ap (λ t. t && nat_lt 0 (length more) && list_all is_in_name more) e

last_false : (a b : Bool) → b ≡ false → (a && b) ≡ false
last_false true b h = h
last_false false b h = refl

name_front : (bs : List ℕ) → 0 < prefix_len is_in_name bs
    → IsLongestFront is_name bs (prefix_len is_in_name bs)
name_front bs some =
    let all = all_front is_in_name bs in
    let l = length-take-le (prefix_len is_in_name bs) bs all.inside in
    record {
      inside = all.inside;
      of_form =
          (let e : nat_lt 0 (length (take (prefix_len is_in_name bs) bs)) ≡ true =
          grind (arith, nat_tests) in
          ap (λ t. t && list_all is_in_name (take (prefix_len is_in_name bs) bs)) e) ∙ all.of_form;
      longest =
          λ m low high. last_false (nat_lt 0 (length (take m bs))) (list_all is_in_name (take m bs))
          (all.longest m low high);
    }

no_name_front : (bs : List ℕ) (m : ℕ) → prefix_len is_in_name bs ≡ 0 → m ≤ length bs
    → is_name (take m bs) ≡ false
no_name_front bs zero none h = refl
no_name_front bs (suc m) none h =
    last_false (nat_lt 0 (length (take (suc m) bs))) (list_all is_in_name (take (suc m) bs))
    ((all_front is_in_name bs).longest (suc m) (omega arith) h)

named_cons : (sign b : ℕ) (bs : List ℕ) (n : ℕ) → b ≡ sign → n ≡ 1 + prefix_len is_in_name bs
    → 1 < n → IsLongestFront (is_name_behind sign) (b ∷ bs) n
named_cons sign b bs n h is more =
    subst (λ k. IsLongestFront (is_name_behind sign) (b ∷ bs) k) (sym is)
    (front_cons (is_name_behind sign) is_name b bs (prefix_len is_in_name bs) (behind_sign sign b h)
    (name_front bs (omega arith)))

pub named : (sign : ℕ) (bs : List ℕ) (n : ℕ) → 0 < length bs → get_or bs 0 0 ≡ sign
    → n ≡ 1 + prefix_len is_in_name (drop 1 bs) → 1 < n → IsLongestFront (is_name_behind sign) bs n
named sign [] n some h is more = absurd (omega arith)
named sign (b ∷ bs) n some h is more = named_cons sign b bs n h is more

unnamed_cons : (sign b : ℕ) (bs : List ℕ) (m : ℕ) → b ≡ sign → prefix_len is_in_name bs ≡ 0
    → m ≤ length (b ∷ bs) → is_name_behind sign (take m (b ∷ bs)) ≡ false
unnamed_cons sign b bs zero h none high = refl
unnamed_cons sign b bs (suc m) h none high =
    behind_sign sign b h (take m bs) ∙ no_name_front bs m none (omega arith)

pub unnamed : (sign : ℕ) (bs : List ℕ) (n : ℕ) → 0 < length bs → get_or bs 0 0 ≡ sign
    → n ≡ 1 + prefix_len is_in_name (drop 1 bs) → n ≤ 1 → HasNoFront (is_name_behind sign) bs
unnamed sign [] n some h is few = absurd (omega arith)
unnamed sign (b ∷ bs) n some h is few = λ m high. unnamed_cons sign b bs m h (omega arith) high

name_is_ascii : (b : ℕ) → is_in_name b ≡ true → b < 128
name_is_ascii b h = grind (arith, nat_tests)

pub named_boundary : (bs : List ℕ) (n : ℕ) → 0 < length bs → get_or bs 0 0 < 128
    → n ≡ 1 + prefix_len is_in_name (drop 1 bs) → IsUtf8 bs → IsCharBoundary bs n
named_boundary bs n some ascii is utf8 =
    subst (IsCharBoundary bs) (sym is)
    (run_boundary is_in_name name_is_ascii bs 1 utf8 (omega arith)
    (IsCharBoundary-after_ascii bs 0 utf8 some ascii))

pub first_boundary : (bs : List ℕ) → 0 < length bs → get_or bs 0 0 < 128 → IsUtf8 bs
    → IsCharBoundary bs 1
first_boundary bs some ascii utf8 = IsCharBoundary-after_ascii bs 0 utf8 some ascii

key_parts : (xs : List ℕ) → is_key xs ≡ true
    → (list_all is_in_key (take (length xs - 1) xs) ≡ true) × (get_or xs (length xs - 1) 0 ≡ 58)
key_parts xs h = (grind (arith, nat_tests), grind (arith, nat_tests))

no_colon_in_key : (b : ℕ) → b ≡ 58 → is_in_key b ≡ false
no_colon_in_key b h = ap is_in_key h

not_true : (t : Bool) → t ≡ true → t ≡ false → ⊥
not_true t a b = absurd (cc)

at_most : (p : ℕ → Bool) (bs : List ℕ) (k : ℕ) → k ≤ length bs → list_all p (take k bs) ≡ true
    → k ≤ prefix_len p bs
at_most p bs k high all =
    ⊎_elim (λ past.
    absurd (not_true (list_all p (take k bs)) all ((all_front p bs).longest k past high)))
    (λ within. within) (order (prefix_len p bs) k)

at_least : (p : ℕ → Bool) (bs : List ℕ) (k : ℕ) → p (get_or bs k 0) ≡ false → prefix_len p bs ≤ k
at_least p bs k stops =
    ⊎_elim (λ below. absurd (not_true (p (get_or bs k 0)) (prefix_len_passes p bs k 0 below) stops))
    (λ past. past) (order k (prefix_len p bs))

-- only one front is a key
pub one_key : (bs : List ℕ) (m : ℕ) → 0 < m → m ≤ length bs → is_key (take m bs) ≡ true
    → (m ≡ prefix_len is_in_key bs + 1) × (get_or bs (prefix_len is_in_key bs) 0 ≡ 58)
one_key bs m some high is =
    let parts = key_parts (take m bs) is in
    let l = length-take-le m bs high in
    let last : length (take m bs) - 1 ≡ m - 1 = omega arith in
    let front : take (length (take m bs) - 1) (take m bs) ≡ take (m - 1) bs =
    ap (λ k. take k (take m bs)) last ∙ take-take (m - 1) m bs (omega arith) in
    let all : list_all is_in_key (take (m - 1) bs) ≡ true =
    ap (list_all is_in_key) (sym front) ∙ parts.0 in
    let colon : get_or bs (m - 1) 0 ≡ 58 =
    sym (get_or-take m bs (m - 1) 0 (omega arith)) ∙ ap (λ k. get_or (take m bs) k 0) (sym last)
    ∙ parts.1 in
    let low = at_most is_in_key bs (m - 1) (omega arith) all in
    let up = at_least is_in_key bs (m - 1) (no_colon_in_key (get_or bs (m - 1) 0) colon) in
    let same : m - 1 ≡ prefix_len is_in_key bs = omega arith in
    (omega arith, ap (λ k. get_or bs k 0) (sym same) ∙ colon)

no_key_empty : (bs : List ℕ) → is_key (take 0 bs) ≡ false
no_key_empty bs = refl

not_both : (t : Bool) → (t ≡ true → ⊥) → t ≡ false
not_both true h = absurd (h refl)
not_both false h = refl

pub no_key : (bs : List ℕ) (m : ℕ)
    → (prefix_len is_in_key bs < length bs → get_or bs (prefix_len is_in_key bs) 0 ≢ 58) → 0 < m
    → m ≤ length bs → is_key (take m bs) ≡ false
no_key bs m none some high =
    not_both (is_key (take m bs)) (λ is. let k = one_key bs m some high is in let e = k.0 in
    none (omega arith) k.1)

key_form : (xs : List ℕ) → is_ascii_lowercase (get_or xs 0 0) ≡ true
    → list_all is_in_key (take (length xs - 1) xs) ≡ true → get_or xs (length xs - 1) 0 ≡ 58
    → is_key xs ≡ true
key_form xs small all colon = grind (arith, nat_tests)

pub key_front : (bs : List ℕ) (e : ℕ) → is_ascii_lowercase (get_or bs 0 0) ≡ true
    → e ≡ prefix_len is_in_key bs → e < length bs → get_or bs e 0 ≡ 58
    → IsLongestFront is_key bs (e + 1)
key_front bs e small is inside colon =
    let l = length-take-le (e + 1) bs (omega arith) in
    let last : length (take (e + 1) bs) - 1 ≡ e = omega arith in
    let front : take (length (take (e + 1) bs) - 1) (take (e + 1) bs) ≡ take e bs =
    ap (λ k. take k (take (e + 1) bs)) last ∙ take-take e (e + 1) bs (omega arith) in
    record {
      inside = omega arith;
      of_form =
          key_form (take (e + 1) bs)
          (ap is_ascii_lowercase (get_or-take (e + 1) bs 0 0 (omega arith)) ∙ small)
          (ap (list_all is_in_key) front ∙ ap (λ k. list_all is_in_key (take k bs)) is
          ∙ (all_front is_in_key bs).of_form)
          (ap (λ k. get_or (take (e + 1) bs) k 0) last ∙ get_or-take (e + 1) bs e 0 (omega arith)
          ∙ colon);
      longest =
          λ m low high. not_both (is_key (take m bs)) (λ key. let k =
          one_key bs m (omega arith) high key in let same = k.0 in absurd (omega arith));
    }

-- what has only a key's bytes ends before the colon
pub within_key : (bs : List ℕ) (m : ℕ) → m ≤ length bs → list_all is_in_key (take m bs) ≡ true
    → m ≤ prefix_len is_in_key bs
within_key bs m high all = at_most is_in_key bs m high all

pub small_boundary : (bs : List ℕ) → 0 < length bs → is_ascii_lowercase (get_or bs 0 0) ≡ true
    → IsUtf8 bs → IsCharBoundary bs 1
small_boundary bs some small utf8 =
    first_boundary bs some (let e : get_or bs 0 0 < 128 = grind (arith, nat_tests) in e) utf8
