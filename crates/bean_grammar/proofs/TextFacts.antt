-- Where a quoted text begins and ends.
use Rattle.std.proofs.Common.{◌≡◌, ℕ, suc, ◌-◌, ◌<◌, ◌≤◌, Bool, true, false, cond, nat_eq, List, []}
use Rattle.std.proofs.Common.{◌∷◌, length, get_or, arith, refl, ap, ◌∙◌}
use Rattle.std.proofs.lemmas.Bool.Decides.{nat_tests}
use Rattle.bean_lexer.specs.TokenForm.{is_text, ends_text, is_escape, is_empty}
use Rattle.bean_lexer.proofs.FirstByteFacts.{second_true}

-- a text ends with a quote
abbrev pub EndsQuoted : List ℕ → Type 0
EndsQuoted bs = (0 < length bs) × (get_or bs (length bs - 1) 0 ≡ 34)

behind_first : (b : ℕ) (bs : List ℕ) → EndsQuoted bs → EndsQuoted (b ∷ bs)
behind_first b [] h = absurd (omega (arith, h.0))
behind_first b (c ∷ cs) h =
    let e : length (b ∷ c ∷ cs) - 1 ≡ suc (length (c ∷ cs) - 1) = omega arith in
    (omega arith, ap (λ k. get_or (b ∷ c ∷ cs) k 0) e ∙ h.1)

ends_first : (b : ℕ) (bs : List ℕ) (t : Bool) → nat_eq b 34 ≡ t
    → (ends_text (nat_eq b 92) bs ≡ true → EndsQuoted bs)
    → cond t (is_empty bs) (ends_text (nat_eq b 92) bs) ≡ true → EndsQuoted (b ∷ bs)
ends_first b [] true e rest h = let quote : b ≡ 34 = grind (arith, nat_tests) in
    (omega arith, quote)
ends_first b (c ∷ cs) true e rest h = absurd (cc)
ends_first b bs false e rest h = behind_first b bs (rest h)

ends_quoted : (escaped : Bool) (bs : List ℕ) → ends_text escaped bs ≡ true → EndsQuoted bs
ends_quoted escaped [] h = absurd (cc)
ends_quoted true (b ∷ bs) h =
    behind_first b bs (ends_quoted false bs (second_true (is_escape b) (ends_text false bs) h))
ends_quoted false (b ∷ bs) h =
    ends_first b bs (nat_eq b 34) refl (λ r. ends_quoted (nat_eq b 92) bs r) h

-- a text has two quotes
pub has_quotes : (bs : List ℕ) → is_text bs ≡ true
    → (2 ≤ length bs) × (get_or bs 0 0 ≡ 34) × (get_or bs (length bs - 1) 0 ≡ 34)
has_quotes [] h = absurd (cc)
has_quotes (b ∷ bs) h =
    let rest = ends_quoted false bs (second_true (nat_eq b 34) (ends_text false bs) h) in
    let whole = behind_first b bs rest in
    let quote : b ≡ 34 = grind (arith, nat_tests) in
    (omega (arith, rest.0), quote, whole.1)
