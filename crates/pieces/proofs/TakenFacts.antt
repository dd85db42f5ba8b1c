-- Items that are taken from the front of a list.
use Rattle.std.proofs.Common.{◌≡◌, ℕ, zero, suc, ◌+◌, ◌≤◌, List, [], ◌∷◌, ◌++◌, take, drop}
use Rattle.std.proofs.Common.{refl, sym, ap, ◌∙◌, append_assoc, add-one, arith}

more : {X : Type 0} (xs : List X) (i : ℕ) (x : X) (ys : List X) → drop i xs ≡ x ∷ ys
    → take (suc i) xs ≡ take i xs ++ x ∷ []
more [] zero x ys e = cc
more [] (suc i) x ys e = cc
more (z ∷ xs) zero x ys e = let same : z ≡ x = cc in ap (λ q. q ∷ []) same
more (z ∷ xs) (suc i) x ys e = ap (λ l. z ∷ l) (more xs i x ys e)

fewer : {X : Type 0} (xs : List X) (i : ℕ) (x : X) (ys : List X) → drop i xs ≡ x ∷ ys
    → drop (suc i) xs ≡ ys
fewer [] zero x ys e = cc
fewer [] (suc i) x ys e = cc
fewer (z ∷ xs) zero x ys e = cc
fewer (z ∷ xs) (suc i) x ys e = fewer xs i x ys e

-- one more is moved
pub one_moved : {X : Type 0} (to now new : List X) (xs : List X) (i : ℕ) (x : X) (ys : List X)
    → drop i xs ≡ x ∷ ys → now ≡ to ++ take i xs → new ≡ now ++ x ∷ []
    → new ≡ to ++ take (i + 1) xs
one_moved to now new xs i x ys e was is =
    rw add-one
    (is ∙ ap (λ l. l ++ x ∷ []) was ∙ append_assoc to (take i xs) (x ∷ [])
    ∙ ap (λ l. to ++ l) (sym (more xs i x ys e)))

pub one_left : {X : Type 0} (xs : List X) (i : ℕ) (x : X) (ys : List X) → drop i xs ≡ x ∷ ys
    → ys ≡ drop (i + 1) xs
one_left xs i x ys e = rw add-one (sym (fewer xs i x ys e))

-- where none is left
pub all_moved : {X : Type 0} (xs : List X) (i n : ℕ) → drop i xs ≡ [] → i ≤ n
    → take i xs ≡ take n xs
all_moved [] zero zero e h = refl
all_moved [] zero (suc n) e h = refl
all_moved [] (suc i) zero e h = refl
all_moved [] (suc i) (suc n) e h = refl
all_moved (x ∷ xs) zero n e h = cc
all_moved (x ∷ xs) (suc i) zero e h = absurd (omega (arith, h))
all_moved (x ∷ xs) (suc i) (suc n) e h = ap (λ l. x ∷ l) (all_moved xs i n e (omega (arith, h)))

pub none_left : {X : Type 0} (xs : List X) (i n : ℕ) → drop i xs ≡ [] → i ≤ n → [] ≡ drop n xs
none_left [] i zero e h = refl
none_left [] i (suc n) e h = refl
none_left (x ∷ xs) zero n e h = cc
none_left (x ∷ xs) (suc i) zero e h = absurd (omega (arith, h))
none_left (x ∷ xs) (suc i) (suc n) e h = none_left xs i n e (omega (arith, h))
