-- Runs of one byte.
use Rattle.std.proofs.Common.{◌≡◌, ℕ, ◌+◌, ◌-◌, ◌≤◌, List, ◌++◌, length, replicate, take, drop, ap, sym}
use Rattle.std.proofs.Common.{◌∙◌, append_assoc, arith, take-take}
use Rattle.std.proofs.Math.Seq.{take-append-add}
use Rattle.std.proofs.lemmas.List.{drop-append-le, drop-replicate, length-replicate, replicate-append-replicate}
use Rattle.std.proofs.lemmas.List.{take-append-drop, take-replicate}

-- so many spaces are added, and those that are too many taken off
pub few_spaces : (old new : List ℕ) (many count n : ℕ) → count ≤ many → n ≡ length old + count
    → new ≡ old ++ replicate many 32 → take n new ≡ old ++ replicate count 32
few_spaces old new many count n few at is =
    (λ i. take (at i) (is i)) ∙ take-append-add old (replicate many 32) count
    ∙ ap (λ l. old ++ l) (take-replicate count many 32 few)

-- what was spaces alone and is the same at its front
pub still_spaces : (xs : List ℕ) (all n m : ℕ) → m ≤ n → n ≤ all
    → take n xs ≡ take n (replicate all 32) → take m xs ≡ replicate m 32
still_spaces xs all n m fits inside same =
    sym (take-take m n xs fits) ∙ ap (take m) (same ∙ take-replicate n all 32 inside)
    ∙ take-replicate m n 32 fits

-- spaces, and what stands behind them
pub behind_spaces : (xs : List ℕ) (n m : ℕ) → m ≤ n → take n xs ≡ replicate n 32
    → drop m xs ≡ replicate (n - m) 32 ++ drop n xs
behind_spaces xs n m fits is =
    let long = ap length is in
    ap (drop m) (sym (take-append-drop n xs))
    ∙ drop-append-le m (take n xs) (drop n xs) (omega (arith, fits, long, length-replicate {A = ℕ} n 32))
    ∙ ap (λ l. drop m l ++ drop n xs) is ∙ ap (λ l. l ++ drop n xs) (drop-replicate m n 32)

-- some spaces and some more before a text
pub more_spaces : (old text : List ℕ) (n m all : ℕ) → n + m ≡ all
    → (old ++ replicate n 32) ++ (replicate m 32 ++ text) ≡ old ++ (replicate all 32 ++ text)
more_spaces old text n m all are =
    append_assoc old (replicate n 32) (replicate m 32 ++ text)
    ∙ ap (λ l. old ++ l)
    (sym (append_assoc (replicate n 32) (replicate m 32) text)
    ∙ ap (λ l. l ++ text) (replicate-append-replicate n m 32 ∙ ap (λ k. replicate k 32) are))

-- the same where what is kept has a text before it
pub few_behind : (old text new : List ℕ) (many count n : ℕ) → count ≤ many
    → n ≡ length old + (length text + count) → new ≡ old ++ (text ++ replicate many 32)
    → take n new ≡ old ++ (text ++ replicate count 32)
few_behind old text new many count n few at is =
    (λ i. take (at i) (is i))
    ∙ take-append-add old (text ++ replicate many 32) (length text + count)
    ∙ ap (λ l. old ++ l)
    (take-append-add text (replicate many 32) count
    ∙ ap (λ l. text ++ l) (take-replicate count many 32 few))

-- some spaces behind a text, and the others
pub more_behind : (old text : List ℕ) (n m all : ℕ) → n + m ≡ all
    → (old ++ (text ++ replicate n 32)) ++ replicate m 32 ≡ (old ++ text) ++ replicate all 32
more_behind old text n m all are =
    ap (λ l. l ++ replicate m 32) (sym (append_assoc old text (replicate n 32)))
    ∙ append_assoc (old ++ text) (replicate n 32) (replicate m 32)
    ∙ ap (λ l. (old ++ text) ++ l)
    (replicate-append-replicate n m 32 ∙ ap (λ k. replicate k 32) are)

-- what was spaces alone, and is the same at its front
pub spaces_kept : (xs ys : List ℕ) (all n m : ℕ) → m ≤ n → n ≤ all
    → take all ys ≡ replicate all 32 → take n xs ≡ take n ys → take m xs ≡ replicate m 32
spaces_kept xs ys all n m fits inside spaces same =
    still_spaces xs all n m fits inside
    (same ∙ sym (take-take n all ys inside) ∙ ap (take n) spaces)

-- spaces before a text and behind it, each in two runs
pub right_in_parts : (old text : List ℕ) (n m all kept rest behind : ℕ) → n + m ≡ all
    → kept + rest ≡ behind
    → ((old ++ replicate n 32) ++ ((replicate m 32 ++ text) ++ replicate kept 32)) ++ replicate rest 32
    ≡ (old ++ (replicate all 32 ++ text)) ++ replicate behind 32
right_in_parts old text n m all kept rest behind before after =
    more_behind (old ++ replicate n 32) (replicate m 32 ++ text) kept rest behind after
    ∙ ap (λ l. l ++ replicate behind 32) (more_spaces old text n m all before)
