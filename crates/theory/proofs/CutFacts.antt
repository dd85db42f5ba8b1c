-- Cutting a list, part by part.
use Rattle.std.proofs.Common.{◌≡◌, ℕ, ◌+◌, Bool, true, false, not, List, [], ◌∷◌, take, drop, cond}
use Rattle.std.proofs.Common.{suc, map, refl, sym, ◌∙◌, ap, arith}
use Rattle.std.specs.List.{prefix_len}
use Rattle.theory.specs.Cut.{cut_before, put_before}

-- how many elements stand before the next part
abbrev pub others_len : {A : Type 0} → (A → Bool) → List A → ℕ
others_len begins xs = prefix_len (λ y. not (begins y)) xs

-- the first part, if it has one element and n others, and the parts behind it
abbrev pub cut_at : {A : Type 0} → (A → Bool) → A → List A → ℕ → List (List A)
cut_at begins x xs n = (x ∷ take n xs) ∷ cut_before begins (drop n xs)

pub put_true : {A : Type 0} (begins : A → Bool) (x y : A) (a : List A) (r : List (List A))
    → begins y ≡ true → put_before begins x ((y ∷ a) ∷ r) ≡ (x ∷ []) ∷ ((y ∷ a) ∷ r)
put_true begins x y a r e = ap (λ b. cond b ((x ∷ []) ∷ ((y ∷ a) ∷ r)) ((x ∷ (y ∷ a)) ∷ r)) e

pub put_false : {A : Type 0} (begins : A → Bool) (x y : A) (a : List A) (r : List (List A))
    → begins y ≡ false → put_before begins x ((y ∷ a) ∷ r) ≡ (x ∷ (y ∷ a)) ∷ r
put_false begins x y a r e = ap (λ b. cond b ((x ∷ []) ∷ ((y ∷ a) ∷ r)) ((x ∷ (y ∷ a)) ∷ r)) e

len_true : {A : Type 0} (begins : A → Bool) (y : A) (ys : List A) → begins y ≡ true
    → others_len begins (y ∷ ys) ≡ 0
len_true begins y ys e = ap (λ b. cond (not b) (1 + others_len begins ys) 0) e

len_false : {A : Type 0} (begins : A → Bool) (y : A) (ys : List A) → begins y ≡ false
    → others_len begins (y ∷ ys) ≡ suc (others_len begins ys)
len_false begins y ys e =
    let one : 1 + others_len begins ys ≡ suc (others_len begins ys) = omega arith in
    ap (λ b. cond (not b) (1 + others_len begins ys) 0) e ∙ one

put_other : {A : Type 0} (begins : A → Bool) (x y : A) (ys : List A) (b : Bool) → begins y ≡ b
    → cut_before begins (y ∷ ys) ≡ cut_at begins y ys (others_len begins ys)
    → put_before begins x (cut_before begins (y ∷ ys))
    ≡ cut_at begins x (y ∷ ys) (others_len begins (y ∷ ys))
put_other begins x y ys true e h =
    ap (put_before begins x) h
    ∙ (put_true begins x y _ _ e
    ∙ (ap (λ parts. (x ∷ []) ∷ parts) (sym h)
    ∙ ap (cut_at begins x (y ∷ ys)) (sym (len_true begins y ys e))))
put_other begins x y ys false e h =
    ap (put_before begins x) h
    ∙ (put_false begins x y _ _ e
    ∙ ap (cut_at begins x (y ∷ ys)) (sym (len_false begins y ys e)))

pub first_cut : {A : Type 0} (begins : A → Bool) (x : A) (xs : List A)
    → cut_before begins (x ∷ xs) ≡ cut_at begins x xs (others_len begins xs)
first_cut begins x [] = refl
first_cut begins x (y ∷ ys) = put_other begins x y ys (begins y) refl (first_cut begins y ys)

pub first_cut_of :
    {A : Type 0} (begins : A
    → Bool) (tokens : List A) (x : A) (xs : List A) (n : ℕ) (front back : List A)
    → tokens ≡ x ∷ xs → n ≡ others_len begins xs → front ≡ take (1 + n) tokens
    → back ≡ drop (1 + n) tokens
    → cut_before begins tokens ≡ front ∷ cut_before begins back
first_cut_of begins tokens x xs n front back at len f b =
    let one : 1 + n ≡ suc n = omega arith in
    let front_is : front ≡ x ∷ take n xs =
    f ∙ (ap (λ m. take m tokens) one ∙ ap (take (suc n)) at) in
    let back_is : back ≡ drop n xs = b ∙ (ap (λ m. drop m tokens) one ∙ ap (drop (suc n)) at) in
    let cut : cut_before begins tokens ≡ cut_at begins x xs n =
    ap (cut_before begins) at ∙ (first_cut begins x xs ∙ ap (cut_at begins x xs) (sym len)) in
    cut ∙ (ap (λ p. p ∷ cut_before begins (drop n xs)) (sym front_is)
    ∙ ap (λ p. front ∷ cut_before begins p) (sym back_is))

-- what is cut may be told by a view of the elements

map_cond : {A B : Type 0} (f : A → B) (b : Bool) (p q : A) → f (cond b p q) ≡ cond b (f p) (f q)
map_cond f true p q = refl
map_cond f false p q = refl

map_put : {A B : Type 0} (f : A → B) (begins : B → Bool) (x : A) (parts : List (List A))
    → map (map f) (put_before (λ y. begins (f y)) x parts)
    ≡ put_before begins (f x) (map (map f) parts)
map_put f begins x [] = refl
map_put f begins x ([] ∷ parts) = refl
map_put f begins x ((y ∷ ys) ∷ parts) =
    map_cond (map (map f)) (begins (f y)) ((x ∷ []) ∷ ((y ∷ ys) ∷ parts)) ((x ∷ (y ∷ ys)) ∷ parts)

map_cut : {A B : Type 0} (f : A → B) (begins : B → Bool) (xs : List A)
    → map (map f) (cut_before (λ y. begins (f y)) xs) ≡ cut_before begins (map f xs)
map_cut f begins [] = refl
map_cut f begins (x ∷ xs) =
    map_put f begins x (cut_before (λ y. begins (f y)) xs)
    ∙ ap (put_before begins (f x)) (map_cut f begins xs)

pub first_cut_seen :
    {A B : Type 0} (f : A → B) (begins : B
    → Bool) (tokens : List A) (x : A) (xs : List A) (n : ℕ) (front back : List A)
    → tokens ≡ x ∷ xs → n ≡ others_len (λ y. begins (f y)) xs → front ≡ take (1 + n) tokens
    → back ≡ drop (1 + n) tokens
    → cut_before begins (map f tokens) ≡ map f front ∷ cut_before begins (map f back)
first_cut_seen f begins tokens x xs n front back at len h k =
    sym (map_cut f begins tokens)
    ∙ (ap (map (map f)) (first_cut_of (λ y. begins (f y)) tokens x xs n front back at len h k)
    ∙ ap (λ parts. map f front ∷ parts) (map_cut f begins back))
