-- Joining one more list.
use Rattle.std.proofs.Common.{◌≡◌, ℕ, suc, ◌+◌, ◌<◌, cond, nat_lt, true, List, [], ◌∷◌, ◌++◌}
use Rattle.std.proofs.Common.{length, get_or, take, map, refl, sym, ap, ◌∙◌, arith, append_assoc}
use Rattle.std.proofs.Common.{length-take-le}
use Rattle.std.proofs.lemmas.Bool.Decides.{nat_tests}
use Rattle.std.proofs.lemmas.List.{append-nil, take_more, map-append}
use Rattle.std.proofs.lemmas.Grind.{flat_map-append}
use Rattle.std.specs.List.{flat_map}
use Rattle.theory.specs.Joined.{joined, gap_behind, gap_before}

joined_behind : {A : Type 0} (separator x : List A) (xs : List (List A)) (y : List A)
    → joined separator ((x ∷ xs) ++ y ∷ []) ≡ joined separator (x ∷ xs) ++ (separator ++ y)
joined_behind separator x xs y =
    let more = flat_map (λ z. separator ++ z) xs in
    ap (λ t. x ++ t) (flat_map-append (λ z. separator ++ z) xs (y ∷ [])
    ∙ ap (λ t. more ++ t) (append-nil (separator ++ y)))
    ∙ sym (append_assoc x more (separator ++ y))

-- the lists so far, what stands between, and the next
pub joined_more : {A : Type 0} (separator : List A) (xs : List (List A)) (y : List A)
    → joined separator (xs ++ y ∷ []) ≡ joined separator xs ++ (gap_behind separator xs ++ y)
joined_more separator [] y = append-nil y
joined_more separator (x ∷ xs) y = joined_behind separator x xs y

gap_counted : {A X : Type 0} (separator : List A) (f : X → List A) (xs : List X)
    → gap_behind separator (map f xs) ≡ gap_before separator (length xs)
gap_counted separator f [] = refl
gap_counted separator f (x ∷ xs) = let some : nat_lt 0 (suc (length xs)) ≡ true =
    grind (arith, nat_tests) in ap (λ t. cond t separator []) (sym some)

-- one more of the lists that items stand for
pub joined_next : {A X : Type 0} (separator : List A) (f : X → List A) (xs : List X) (i : ℕ) (x : X)
    → i < length xs → x ≡ get_or xs i x
    → joined separator (map f (take (i + 1) xs))
    ≡ joined separator (map f (take i xs)) ++ (gap_before separator i ++ f x)
joined_next separator f xs i x within is =
    ap (λ l. joined separator (map f l))
    (take_more xs i x within ∙ ap (λ y. take i xs ++ y ∷ []) (sym is))
    ∙ ap (joined separator) (map-append f (take i xs) (x ∷ []))
    ∙ joined_more separator (map f (take i xs)) (f x)
    ∙ ap (λ g. joined separator (map f (take i xs)) ++ (g ++ f x))
    (gap_counted separator f (take i xs)
    ∙ ap (gap_before separator) (length-take-le i xs (omega arith)))
