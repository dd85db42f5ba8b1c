-- What holds of lists.
use Rattle.std.proofs.Common.{◌≡◌, zero, suc, Bool, true, false, cond, List, [], ◌∷◌, map}
use Rattle.std.proofs.Common.{Some, None, refl, ap, arith}
use Rattle.std.specs.Prelude.{filter}
use Rattle.std.specs.List.{AllByRecursion, IsAmong}

pub some_is : {A : Type 0} (x y : A) → Some x ≡ Some y → x ≡ y
some_is x y e = cc

pub no_value : {A : Type 0} (x : A) → None ≡ Some x → ⊥
no_value x e = cc

-- one map behind the other
pub map_map : {A B C : Type 0} (f : B → C) (h : A → B) (xs : List A)
    → map f (map h xs) ≡ map (λ x. f (h x)) xs
map_map f h [] = refl
map_map f h (x ∷ xs) = ap (λ l. f (h x) ∷ l) (map_map f h xs)

-- by what does the same to each
pub map_same : {A B : Type 0} (f h : A → B) → ((x : A) → f x ≡ h x) → (xs : List A)
    → map f xs ≡ map h xs
map_same f h e [] = refl
map_same f h e (x ∷ xs) = λ i. e x i ∷ map_same f h e xs i

-- those that pass, of what is made of each
pub filter_map : {A B : Type 0} (f : A → B) (test : B → Bool) (xs : List A)
    → filter test (map f xs) ≡ map f (filter (λ x. test (f x)) xs)
filter_map f test [] = refl
filter_map f test (x ∷ xs) = by (test (f x)) (filter_map f test xs)
  where
    by : (is : Bool) → filter test (map f xs) ≡ map f (filter (λ x. test (f x)) xs)
        → cond is (f x ∷ filter test (map f xs)) (filter test (map f xs))
        ≡ map f (cond is (x ∷ filter (λ x. test (f x)) xs) (filter (λ x. test (f x)) xs))
    by true e = ap (λ l. f x ∷ l) e
    by false e = e

-- by tests that say the same
pub filter_same : {A : Type 0} (p q : A → Bool) → ((x : A) → p x ≡ q x) → (xs : List A)
    → filter p xs ≡ filter q xs
filter_same p q e [] = refl
filter_same p q e (x ∷ xs) = λ i. cond (e x i) (x ∷ filter_same p q e xs i) (filter_same p q e xs i)

-- what holds of each that is among some holds of all
pub all_among : {A : Type 0} (P : A → Type 0) (xs : List A) → ((x : A) → IsAmong xs x → P x)
    → AllByRecursion P xs
all_among P [] f = tt
all_among P (x ∷ xs) f =
    (f x (zero, (omega arith, refl)), all_among P xs (λ y m. f y (suc m.0, (omega (arith, m.1.0), m.1.1))))

-- what is made of one that is among some
pub among_map : {A B : Type 0} (f : A → B) (xs : List A) → AllByRecursion (λ x. IsAmong (map f xs) (f x)) xs
among_map f [] = tt
among_map {A} {B} f (x ∷ xs) = ((zero, (omega arith, refl)), each xs (among_map f xs))
  where
    each : (ys : List A) → AllByRecursion (λ y. IsAmong (map f xs) (f y)) ys
        → AllByRecursion (λ y. IsAmong (f x ∷ map f xs) (f y)) ys
    each [] all = tt
    each (y ∷ ys) all =
        ((suc all.0.0, (omega (arith, all.0.1.0), all.0.1.1)), each ys all.1)

pub both_all : {A : Type 0} (P Q : A → Type 0) (xs : List A) → AllByRecursion P xs
    → AllByRecursion Q xs → AllByRecursion (λ x. P x × Q x) xs
both_all P Q [] h k = tt
both_all P Q (x ∷ xs) h k = ((h.0, k.0), both_all P Q xs h.1 k.1)
