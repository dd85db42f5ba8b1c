-- The steps of a text.
use Rattle.std.proofs.Common.{◌≡◌, ◌≢◌, ℕ, zero, suc, ◌+◌, ◌<◌, ◌≤◌, ◌&&◌, cond, Bool, true, false}
use Rattle.std.proofs.Common.{nat_eq, nat_lt, List, [], ◌∷◌, ◌++◌, length, get_or, take, drop}
use Rattle.std.proofs.Common.{arith, sym, ap, ◌∙◌, refl, length-drop, append_assoc, IsUtf8}
use Rattle.std.proofs.lemmas.Bool.Decides.{nat_tests}
use Rattle.std.proofs.lemmas.List.{append-nil, take_more, drop-drop, drop_all, get_or-drop}
use Rattle.std.proofs.lemmas.List.Sums.{prefix_len-le-length, prefix_len_stops}
use Rattle.std.proofs.Math.Seq.{take-add}
use Rattle.std.proofs.lemmas.Str.{IsCharBoundary-after_ascii}
use Rattle.std.specs.Str.{IsCharBoundary}
use Rattle.std.specs.List.{prefix_len}
use Rattle.bean_base.proofs.NumeralFacts.{drop_more}
use Rattle.bean_lexer.specs.TokenForm.{is_text, is_escape, is_plain, is_empty, ends_text}
use Rattle.bean_lexer.specs.Tokens.{text_reach, fault_len, goes_on_character, IsLongestToken}
use Rattle.bean_lexer.specs.Tokens.{IsFaultToken}
use Rattle.bean_lexer.specs.declared.kind.Kind.TheVariants as kinds
use Rattle.bean_lexer.proofs.FirstByteFacts.{at_quote, second_true}

-- only one front ends a text
ends_at : (t : Bool) (b : ℕ) (bs : List ℕ) (k : ℕ) → nat_eq b 34 ≡ t → k ≤ length bs →
    (ends_text (nat_eq b 92) (take k bs) ≡ true → k ≡ text_reach (nat_eq b 92) bs) →
    cond t (is_empty (take k bs)) (ends_text (nat_eq b 92) (take k bs)) ≡ true
    → suc k ≡ cond t 1 (1 + text_reach (nat_eq b 92) bs)
ends_at true b bs zero e h rest is = refl
ends_at true b [] (suc k) e h rest is = absurd (omega arith)
ends_at true b (c ∷ bs) (suc k) e h rest is = absurd (cc)
ends_at false b bs k e h rest is = let r = rest is in omega arith

pub one_end : (escaped : Bool) (bs : List ℕ) (k : ℕ) → k ≤ length bs
    → ends_text escaped (take k bs) ≡ true → k ≡ text_reach escaped bs
one_end escaped [] zero h is = absurd (cc)
one_end escaped [] (suc k) h is = absurd (omega arith)
one_end true (b ∷ bs) zero h is = absurd (cc)
one_end false (b ∷ bs) zero h is = absurd (cc)
one_end true (b ∷ bs) (suc k) h is = let r =
    one_end false bs k (omega arith) (second_true (is_escape b) (ends_text false (take k bs)) is) in
    omega arith
one_end false (b ∷ bs) (suc k) h is =
    ends_at (nat_eq b 34) b bs k refl (omega arith)
    (λ r. one_end (nat_eq b 92) bs k (omega arith) r) is

one_text : (b : ℕ) (bs : List ℕ) (m : ℕ) → m ≤ length (b ∷ bs) → is_text (take m (b ∷ bs)) ≡ true
    → m ≡ 1 + text_reach false bs
one_text b bs zero h is = absurd (cc)
one_text b bs (suc k) h is = let r =
    one_end false bs k (omega arith) (second_true (nat_eq b 34) (ends_text false (take k bs)) is) in
    omega arith

not_both : (t : Bool) → (t ≡ true → ⊥) → t ≡ false
not_both true h = absurd (h refl)
not_both false h = refl

reach_drop : (b : ℕ) (bs : List ℕ) (n : ℕ) → n ≡ 1 + text_reach false (drop 1 (b ∷ bs))
    → n ≡ 1 + text_reach false bs
reach_drop b bs n h = h

other_length : (bs : List ℕ) (n m : ℕ) → 0 < length bs → n ≡ 1 + text_reach false (drop 1 bs)
    → m ≤ length bs → m ≢ n → is_text (take m bs) ≡ false
other_length [] n m some e h differs = absurd (omega arith)
other_length (b ∷ bs) n m some e h differs =
    not_both (is_text (take m (b ∷ bs))) (λ is. differs (one_text b bs m h is ∙ sym e))

pub text_token : (bs : List ℕ) (n : ℕ) → 0 < length bs → get_or bs 0 0 ≡ 34 → n ≤ length bs
    → n ≡ 1 + text_reach false (drop 1 bs) → is_text (take n bs) ≡ true
    → IsLongestToken bs kinds.Text n
text_token bs n some quote inside e is = record {
  inside = inside;
  of_kind = is;
  longest = at_quote bs n quote (λ m low high. other_length bs n m some e high (omega arith));
}

fault_reach : (bs : List ℕ) (n : ℕ) → 0 < length bs → get_or bs 0 0 ≡ 34
    → n ≡ 1 + text_reach false (drop 1 bs) → n ≡ fault_len bs
fault_reach [] n some quote e = absurd (omega arith)
fault_reach (b ∷ bs) n some quote e = let q : nat_eq b 34 ≡ true = grind (arith, nat_tests) in
    e ∙ sym (ap
    (λ t. cond t (1 + text_reach false bs)
    (cond (nat_lt b 128) 1 (1 + prefix_len goes_on_character bs))) q)

none_at_all : (bs : List ℕ) (n m : ℕ) (t : Bool) → nat_eq m n ≡ t → 0 < length bs
    → n ≡ 1 + text_reach false (drop 1 bs) → is_text (take n bs) ≡ false → m ≤ length bs
    → is_text (take m bs) ≡ false
none_at_all bs n m true q some e is high = let s : m ≡ n = grind (arith, nat_tests) in
    ap (λ k. is_text (take k bs)) s ∙ is
none_at_all bs n m false q some e is high =
    other_length bs n m some e high (grind (arith, nat_tests))

pub fault_token : (bs : List ℕ) (n : ℕ) → 0 < length bs → get_or bs 0 0 ≡ 34
    → n ≡ 1 + text_reach false (drop 1 bs) → is_text (take n bs) ≡ false
    → IsFaultToken bs kinds.Fault n
fault_token bs n some quote e is = record {
  is_fault = refl;
  none = at_quote bs 0 quote (λ m low high. none_at_all bs n m (nat_eq m n) refl some e is high);
  reach = fault_reach bs n some quote e;
}

-- plain bytes change nothing
plain_ends : (b : ℕ) (bs : List ℕ) → is_plain b ≡ true
    → ends_text false (b ∷ bs) ≡ ends_text false bs
plain_ends b bs h =
    let q : nat_eq b 34 ≡ false = grind (arith, nat_tests) in
    let s : nat_eq b 92 ≡ false = grind (arith, nat_tests) in
    ap (λ t. cond t (is_empty bs) (ends_text (nat_eq b 92) bs)) q ∙ ap (λ t. ends_text t bs) s

plain_reach : (b : ℕ) (bs : List ℕ) → is_plain b ≡ true
    → text_reach false (b ∷ bs) ≡ 1 + text_reach false bs
plain_reach b bs h =
    let q : nat_eq b 34 ≡ false = grind (arith, nat_tests) in
    let s : nat_eq b 92 ≡ false = grind (arith, nat_tests) in
    ap (λ t. cond t 1 (1 + text_reach (nat_eq b 92) bs)) q ∙ ap (λ t. 1 + text_reach t bs) s

run_ends_by : (t : Bool) (b : ℕ) (bs more : List ℕ) (k : ℕ) → is_plain b ≡ t
    → ends_text false (take k bs ++ more) ≡ ends_text false more
    → ends_text false (take (cond t (1 + k) 0) (b ∷ bs) ++ more) ≡ ends_text false more
run_ends_by true b bs more k h rest = let s : 1 + k ≡ suc k = omega arith in
    ap (λ n. ends_text false (take n (b ∷ bs) ++ more)) s ∙ plain_ends b (take k bs ++ more) h
    ∙ rest
run_ends_by false b bs more k h rest = refl

run_ends : (bs more : List ℕ)
    → ends_text false (take (prefix_len is_plain bs) bs ++ more) ≡ ends_text false more
run_ends [] more = refl
run_ends (b ∷ bs) more =
    run_ends_by (is_plain b) b bs more (prefix_len is_plain bs) refl (run_ends bs more)

run_reach_by : (t : Bool) (b : ℕ) (bs : List ℕ) (k : ℕ) → is_plain b ≡ t
    → k + text_reach false (drop k bs) ≡ text_reach false bs
    → cond t (1 + k) 0 + text_reach false (drop (cond t (1 + k) 0) (b ∷ bs))
    ≡ text_reach false (b ∷ bs)
run_reach_by true b bs k h rest =
    let s : 1 + k ≡ suc k = omega arith in
    let r = plain_reach b bs h in
    let e : text_reach false (drop (1 + k) (b ∷ bs)) ≡ text_reach false (drop k bs) =
    ap (λ n. text_reach false (drop n (b ∷ bs))) s in
    omega arith
run_reach_by false b bs k h rest = omega arith

run_reach : (bs : List ℕ)
    → prefix_len is_plain bs + text_reach false (drop (prefix_len is_plain bs) bs)
    ≡ text_reach false bs
run_reach [] = refl
run_reach (b ∷ bs) = run_reach_by (is_plain b) b bs (prefix_len is_plain bs) refl (run_reach bs)

-- what the loop over a text keeps
pub record ReadsText (bs : List ℕ) (len : ℕ) (known : Bool) : Type 0 where
  pub low : 0 < len
  pub inside : len ≤ length bs
  pub reach : len + text_reach false (drop len bs) ≡ 1 + text_reach false (drop 1 bs)
  pub so_far : (more : List ℕ) → is_text (take len bs ++ more) ≡ (known && ends_text false more)

starts_cons : (b : ℕ) (bs : List ℕ) → b ≡ 34 → (more : List ℕ)
    → is_text (take 1 (b ∷ bs) ++ more) ≡ ends_text false more
starts_cons b bs h more = ap (λ c. is_text (c ∷ more)) h

pub text_starts : (bs : List ℕ) → 0 < length bs → get_or bs 0 0 ≡ 34 → ReadsText bs 1 true
text_starts [] some quote = absurd (omega arith)
text_starts (b ∷ bs) some quote =
    record {
      low = omega arith;
      inside = omega arith;
      reach = refl;
      so_far =
          starts_cons b bs quote;
    }

-- up to the end of a run of plain bytes
pub text_goes_on : (bs : List ℕ) (len e : ℕ) (known : Bool)
    → e ≡ len + prefix_len is_plain (drop len bs) → ReadsText bs len known → ReadsText bs e known
text_goes_on bs len e known is so_far =
    let k = prefix_len is_plain (drop len bs) in
    let w = prefix_len-le-length is_plain (drop len bs) in
    let l = length-drop len bs in
    let n = so_far.inside in
    let p = so_far.low in
    let dropped : drop e bs ≡ drop k (drop len bs) =
    ap (λ j. drop j bs) is ∙ sym (drop-drop k len bs) in
    let taken : take e bs ≡ take len bs ++ take k (drop len bs) =
    ap (λ j. take j bs) is ∙ take-add len k bs in
    record {
      low = omega arith;
      inside = omega arith;
      reach = let r = run_reach (drop len bs) in let s = so_far.reach in let d =
          ap (text_reach false) dropped in omega arith;
      so_far = λ more.
          ap (λ l. is_text (l ++ more)) taken
          ∙ ap is_text (append_assoc (take len bs) (take k (drop len bs)) more)
          ∙ so_far.so_far (take k (drop len bs) ++ more)
          ∙ ap (λ t. known && t) (run_ends (drop len bs) more);
    }

two_more : (bs : List ℕ) (e : ℕ) → e + 1 < length bs
    → drop e bs ≡ get_or bs e 0 ∷ get_or bs (e + 1) 0 ∷ drop (e + 2) bs
two_more bs e h =
    let s : e + 1 + 1 ≡ e + 2 = omega arith in
    drop_more e bs (omega arith)
    ∙ ap (λ l. get_or bs e 0 ∷ l)
    (drop_more (e + 1) bs h ∙ ap (λ j. get_or bs (e + 1) 0 ∷ drop j bs) s)

taken_two : (bs : List ℕ) (e : ℕ) (more : List ℕ) → e + 1 < length bs
    → take (e + 2) bs ++ more ≡ take e bs ++ (get_or bs e 0 ∷ get_or bs (e + 1) 0 ∷ more)
taken_two bs e more h =
    let s : e + 2 ≡ e + 1 + 1 = omega arith in
    let one : take (e + 1) bs ≡ take e bs ++ (get_or bs e 0 ∷ []) =
    take_more bs e 0 (omega arith) in
    let two : take (e + 1 + 1) bs ≡ take (e + 1) bs ++ (get_or bs (e + 1) 0 ∷ []) =
    take_more bs (e + 1) 0 h in
    ap (λ j. take j bs ++ more) s ∙ ap (λ l. l ++ more) two
    ∙ append_assoc (take (e + 1) bs) (get_or bs (e + 1) 0 ∷ []) more
    ∙ ap (λ l. l ++ (get_or bs (e + 1) 0 ∷ more)) one
    ∙ append_assoc (take e bs) (get_or bs e 0 ∷ []) (get_or bs (e + 1) 0 ∷ more)

and_group : (a b c : Bool) → (a && (b && c)) ≡ ((a && b) && c)
and_group true b c = refl
and_group false b c = refl

escape_ends : (b c : ℕ) (more : List ℕ) → b ≡ 92
    → ends_text false (b ∷ c ∷ more) ≡ (is_escape c && ends_text false more)
escape_ends b c more h = ap (λ x. ends_text false (x ∷ c ∷ more)) h

escape_reach : (b c : ℕ) (more : List ℕ) → b ≡ 92
    → text_reach false (b ∷ c ∷ more) ≡ 2 + text_reach false more
escape_reach b c more h =
    ap (λ x. text_reach false (x ∷ c ∷ more)) h
    ∙ (let e : 1 + (1 + text_reach false more) ≡ 2 + text_reach false more = omega arith in e)

-- behind a backslash and what follows it
pub text_escapes : (bs : List ℕ) (e : ℕ) (known : Bool) → e + 1 < length bs → get_or bs e 0 ≡ 92
    → ReadsText bs e known → ReadsText bs (e + 2) (known && is_escape (get_or bs (e + 1) 0))
text_escapes bs e known h slash so_far =
    let p = so_far.low in
    record {
      low = omega arith;
      inside = omega arith;
      reach = let r =
          ap (text_reach false) (two_more bs e h)
          ∙ escape_reach (get_or bs e 0) (get_or bs (e + 1) 0) (drop (e + 2) bs) slash in let s =
          so_far.reach in omega arith;
      so_far = λ more.
          ap is_text (taken_two bs e more h)
          ∙ so_far.so_far (get_or bs e 0 ∷ get_or bs (e + 1) 0 ∷ more)
          ∙ ap (λ t. known && t) (escape_ends (get_or bs e 0) (get_or bs (e + 1) 0) more slash)
          ∙ and_group known (is_escape (get_or bs (e + 1) 0)) (ends_text false more);
    }

-- a run of plain bytes ends at a quote, a backslash or the end
pub not_plain : (bs : List ℕ) (len e : ℕ) → e ≡ len + prefix_len is_plain (drop len bs)
    → len ≤ length bs → e < length bs → is_plain (get_or bs e 0) ≡ false
not_plain bs len e is inside low =
    let l = length-drop len bs in
    ap (λ k. is_plain (get_or bs k 0)) is
    ∙ ap is_plain (sym (get_or-drop len bs (prefix_len is_plain (drop len bs)) 0))
    ∙ prefix_len_stops is_plain (drop len bs) 0 (omega arith)

pub is_backslash : (b : ℕ) → is_plain b ≡ false → b ≢ 34 → b ≡ 92
is_backslash b h q = grind (arith, nat_tests)

known_true : (known : Bool) → known ≡ (known && true)
known_true true = refl
known_true false = refl

known_false : (known : Bool) → (known && false) ≡ false
known_false true = refl
known_false false = refl

-- at the closing quote
pub closes : (bs : List ℕ) (e : ℕ) (known : Bool) → e < length bs → get_or bs e 0 ≡ 34
    → ReadsText bs e known
    → (e + 1 ≡ 1 + text_reach false (drop 1 bs)) × (known ≡ is_text (take (e + 1) bs))
closes bs e known h quote so_far =
    let d = drop_more e bs h in
    let r : text_reach false (drop e bs) ≡ 1 =
    ap (text_reach false) d ∙ ap (λ b. text_reach false (b ∷ drop (e + 1) bs)) quote in
    let s = so_far.reach in (
      omega arith,
      known_true known
          ∙ sym (ap is_text (take_more bs e 0 h) ∙ so_far.so_far (get_or bs e 0 ∷ [])
          ∙ ap (λ b. known && ends_text false (b ∷ [])) quote),
    )

-- at the end without one
pub unclosed_at_end : (bs : List ℕ) (e : ℕ) (known : Bool) → e ≡ length bs → ReadsText bs e known
    → (e ≡ 1 + text_reach false (drop 1 bs)) × (is_text (take e bs) ≡ false)
unclosed_at_end bs e known is so_far =
    let d : drop e bs ≡ [] = drop_all e bs (omega arith) in
    let r : text_reach false (drop e bs) ≡ 0 = ap (text_reach false) d in
    let s = so_far.reach in (
      omega arith,
      ap is_text (sym (append-nil (take e bs))) ∙ so_far.so_far [] ∙ known_false known,
    )

pub unclosed_at_backslash : (bs : List ℕ) (e : ℕ) (known : Bool) → e + 1 ≡ length bs
    → get_or bs e 0 ≡ 92 → ReadsText bs e known
    → (e + 1 ≡ 1 + text_reach false (drop 1 bs)) × (is_text (take (e + 1) bs) ≡ false)
unclosed_at_backslash bs e known is slash so_far =
    let low : e < length bs = omega arith in
    let rest : drop (e + 1) bs ≡ [] = drop_all (e + 1) bs (omega arith) in
    let d : drop e bs ≡ get_or bs e 0 ∷ [] =
    drop_more e bs low ∙ ap (λ l. get_or bs e 0 ∷ l) rest in
    let r : text_reach false (drop e bs) ≡ 1 =
    ap (text_reach false) d ∙ ap (λ b. text_reach false (b ∷ [])) slash in
    let s = so_far.reach in (
      omega arith,
      ap is_text (take_more bs e 0 low) ∙ so_far.so_far (get_or bs e 0 ∷ [])
          ∙ ap (λ b. known && ends_text false (b ∷ [])) slash ∙ known_false known,
    )

pub after_quote : (bs : List ℕ) (e : ℕ) → e < length bs → get_or bs e 0 ≡ 34 → IsUtf8 bs
    → IsCharBoundary bs (e + 1)
after_quote bs e low quote utf8 = IsCharBoundary-after_ascii bs e utf8 low (omega (arith, quote))
