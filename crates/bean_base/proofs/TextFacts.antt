-- Texts without escapes.
use Rattle.std.proofs.Common.{◌≡◌, ◌+◌, ◌<◌, Bool, true, false, cond, not, nat_eq, ℕ, suc, List, []}
use Rattle.std.proofs.Common.{◌∷◌, ◌++◌, length, take, drop, encode_utf8, refl, ap, sym, ◌∙◌, arith}
use Rattle.std.proofs.Common.{rules}
use Rattle.std.specs.List.{list_any, position_or_len}
use Rattle.std.proofs.lemmas.Bool.{eqb-true}
use Rattle.std.proofs.lemmas.Bool.{true≢false}
use Rattle.std.proofs.lemmas.Str.{encode_ascii}
use Rattle.bean_base.specs.Character.{backslash}
use Rattle.bean_base.specs.Text.{escaped, read_text}

-- a text without a backslash stands for itself
pub read_plain : (bs : List ℕ) → list_any (nat_eq backslash) bs ≡ false → read_text bs ≡ bs
read_plain [] none = refl
read_plain (b ∷ []) none = refl
read_plain (b ∷ c ∷ bs) none = let rest = read_plain (c ∷ bs) in search rules

-- a byte that is no backslash stands for itself
unescaped : (b : ℕ) (bs : List ℕ) → nat_eq b backslash ≡ false
    → read_text (b ∷ bs) ≡ b ∷ read_text bs
unescaped b [] other = refl
unescaped b (c ∷ bs) other =
    ap (λ t. cond t (escaped c ∷ read_text bs) (b ∷ read_text (c ∷ bs))) other

abbrev place : List ℕ → ℕ
place bs = position_or_len (λ b. nat_eq b 92) bs

here : (b : ℕ) (bs : List ℕ) → nat_eq b 92 ≡ true → place (b ∷ bs) ≡ 0
here b bs is = ap (λ t. cond (not t) (1 + place bs) 0) is

later : (b : ℕ) (bs : List ℕ) → nat_eq b 92 ≡ false → place (b ∷ bs) ≡ suc (place bs)
later b bs other =
    ap (λ t. cond (not t) (1 + place bs) 0) other
    ∙ (let e : 1 + place bs ≡ suc (place bs) = omega arith in e)

-- up to the first backslash each byte stands for itself
pub read_before : (bs : List ℕ) → place bs < length bs
    → read_text bs ≡ take (place bs) bs ++ read_text (92 ∷ drop (place bs + 1) bs)
read_before [] within = absurd (omega arith)
read_before (b ∷ bs) within = by (nat_eq b 92) refl (λ less. read_before bs less)
  where
    by : (t : Bool) → nat_eq b 92 ≡ t
        → (place bs < length bs
        → read_text bs ≡ take (place bs) bs ++ read_text (92 ∷ drop (place bs + 1) bs))
        → read_text (b ∷ bs)
        ≡ take (place (b ∷ bs)) (b ∷ bs) ++ read_text (92 ∷ drop (place (b ∷ bs) + 1) (b ∷ bs))
    by true is rest =
        ap (λ c. read_text (c ∷ bs)) (eqb-true b 92 is)
        ∙ sym (ap (λ n. take n (b ∷ bs) ++ read_text (92 ∷ drop (n + 1) (b ∷ bs)))
        (here b bs is))
    by false other rest =
        let at = later b bs other in
        let e : suc (place bs) + 1 ≡ suc (place bs + 1) = omega arith in
        unescaped b bs other ∙ ap (λ l. b ∷ l) (rest (omega arith))
        ∙ ap (λ n. b ∷ (take (place bs) bs ++ read_text (92 ∷ drop n (b ∷ bs)))) (sym e)
        ∙ sym (ap (λ n. take n (b ∷ bs) ++ read_text (92 ∷ drop (n + 1) (b ∷ bs))) at)

pub read_none : (bs : List ℕ) → place bs ≡ length bs → read_text bs ≡ bs
read_none [] all = refl
read_none (b ∷ bs) all = by (nat_eq b 92) refl (λ same. read_none bs same)
  where
    by : (t : Bool) → nat_eq b 92 ≡ t → (place bs ≡ length bs → read_text bs ≡ bs)
        → read_text (b ∷ bs) ≡ b ∷ bs
    by true is rest = let at = here b bs is in absurd (omega arith)
    by false other rest = let at = later b bs other in
        unescaped b bs other ∙ ap (λ l. b ∷ l) (rest (omega arith))

-- a text that doesn't begin so
apart : (c : ℕ) (bs : List ℕ) (d : ℕ) → d < 128
    → ((rest : List ℕ) → c ∷ bs ≡ encode_utf8 d ++ rest → ⊥) → nat_eq c d ≡ false
apart c bs d small not_so = by (nat_eq c d) refl
  where
    by : (t : Bool) → nat_eq c d ≡ t → nat_eq c d ≡ false
    by true is =
        absurd (not_so bs (ap (λ b. b ∷ bs) (eqb-true c d is)
        ∙ sym (ap (λ l. l ++ bs) (encode_ascii d small))))
    by false other = other

-- an escaped character that stands for itself
pub left_alone : (bs : List ℕ) → false ≡ nat_eq (length bs) 0
    → ((rest : List ℕ) → bs ≡ encode_utf8 110 ++ rest → ⊥)
    → ((rest : List ℕ) → bs ≡ encode_utf8 116 ++ rest → ⊥)
    → ((rest : List ℕ) → bs ≡ encode_utf8 92 ++ rest → ⊥) → read_text bs ≡ read_text (92 ∷ bs)
left_alone [] some n t b = absurd (true≢false (sym some))
left_alone (c ∷ bs) some n t b =
    unescaped c bs (apart c bs 92 (omega arith) b)
    ∙ sym (ap (λ k. k ∷ read_text bs)
    (ap (λ x. cond x 10 (cond (nat_eq c 116) 9 c)) (apart c bs 110 (omega arith) n)
    ∙ ap (λ x. cond x 9 c) (apart c bs 116 (omega arith) t)))
