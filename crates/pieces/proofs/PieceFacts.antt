-- Lists in pieces.
use Rattle.std.proofs.Common.{◌≡◌, ℕ, zero, suc, ◌+◌, ◌*◌, ◌<◌, Bool, true, false, ◌&&◌}
use Rattle.std.proofs.Common.{List, [], ◌∷◌, ◌++◌, get_or, length, refl, sym, ap, subst, ◌∙◌, arith, rules, Some}
use Rattle.std.proofs.lemmas.List.{append_assoc, get_or_append_left, get_or-append-add, length-append}
use Rattle.std.proofs.lemmas.List.Folds.{list_all-append}
use Rattle.std.specs.List.{All, list_all, slice_get}
use Rattle.pieces.specs.Pieces.{AreFull, pieced}

-- ---- items

at_front : {X : Type 0} (xs ys : List X) (i : ℕ) → i < length xs
    → slice_get (xs ++ ys) i ≡ slice_get xs i
at_front [] ys i below = absurd (omega (arith, below))
at_front (x ∷ xs) ys zero below = refl
at_front (x ∷ xs) ys (suc i) below = at_front xs ys i (omega (arith, below))

behind : {X : Type 0} (xs ys : List X) (i : ℕ)
    → slice_get (xs ++ ys) (length xs + i) ≡ slice_get ys i
behind [] ys i = let at : 0 + i ≡ i = omega arith in ap (slice_get ys) at
behind (x ∷ xs) ys i =
    let at : length (x ∷ xs) + i ≡ suc (length xs + i) = omega arith in
    ap (slice_get (x ∷ xs ++ ys)) at ∙ behind xs ys i

-- those of a full piece
pub of_full : {X : Type 0} (n : ℕ) (full : List (List X)) (last : List X) (k r : ℕ) (p : List X)
    → AreFull n full → slice_get full k ≡ Some p → r < n
    → slice_get (pieced full last) (n * k + r) ≡ slice_get p r
of_full n [] last k r p are e less = cc
of_full n (q ∷ ps) last zero r p are e less =
    let same : q ≡ p = cc in
    let at : n * 0 + r ≡ r = omega arith in
    ap (slice_get (q ++ pieced ps last)) at
    ∙ at_front q (pieced ps last) r (omega (arith, less, are.0)) ∙ ap (λ l. slice_get l r) same
of_full n (q ∷ ps) last (suc k) r p are e less =
    let whole = are.0 in
    let at : n * suc k + r ≡ length q + (n * k + r) = omega (arith, whole) in
    ap (slice_get (q ++ pieced ps last)) at ∙ behind q (pieced ps last) (n * k + r)
    ∙ of_full n ps last k r p are.1 e less

pub full_at : {X : Type 0} (n : ℕ) (full : List (List X)) (k : ℕ) (p : List X) → AreFull n full
    → slice_get full k ≡ Some p → length p ≡ n
full_at n [] k p are e = cc
full_at n (q ∷ ps) zero p are e = let same : q ≡ p = cc in sym (ap length same) ∙ are.0
full_at n (q ∷ ps) (suc k) p are e = full_at n ps k p are.1 e

-- and of the last
pub of_last : {X : Type 0} (n : ℕ) (full : List (List X)) (last : List X) (r : ℕ)
    → AreFull n full → slice_get (pieced full last) (n * length full + r) ≡ slice_get last r
of_last n [] last r are =
    let at : n * 0 + r ≡ r = omega arith in ap (slice_get last) at
of_last n (q ∷ ps) last r are =
    let whole = are.0 in
    let at : n * suc (length ps) + r ≡ length q + (n * length ps + r) = omega (arith, whole) in
    ap (slice_get (q ++ pieced ps last)) at ∙ behind q (pieced ps last) (n * length ps + r)
    ∙ of_last n ps last r are.1

pub length_is : {X : Type 0} (n : ℕ) (full : List (List X)) (last : List X) → AreFull n full
    → length (pieced full last) ≡ n * length full + length last
length_is n [] last are = omega arith
length_is n (q ∷ ps) last are =
    let more = length_is n ps last are.1 in
    let both = length-append q (pieced ps last) in
    let whole = are.0 in
    omega (arith, more, both, whole)

-- ---- what is added

pub at_end : {X : Type 0} (full : List (List X)) (last more : List X)
    → pieced full (last ++ more) ≡ pieced full last ++ more
at_end [] last more = refl
at_end (q ∷ ps) last more =
    ap (λ l. q ++ l) (at_end ps last more) ∙ sym (append_assoc q (pieced ps last) more)

pub turned : {X : Type 0} (full : List (List X)) (last : List X)
    → pieced (full ++ last ∷ []) [] ≡ pieced full last
turned [] last = search rules
turned (q ∷ ps) last = ap (λ l. q ++ l) (turned ps last)

-- ---- what holds of all

both : (a b c : Bool) → (a && (b && c)) ≡ ((a && b) && c)
both true b c = refl
both false b c = refl

pub all_of : {X : Type 0} (test : X → Bool) (full : List (List X)) (last : List X)
    → list_all test (pieced full last)
    ≡ (list_all (list_all test) full && list_all test last)
all_of test [] last = refl
all_of test (q ∷ ps) last =
    list_all-append test q (pieced ps last) ∙ ap (λ b. list_all test q && b) (all_of test ps last)
    ∙ both (list_all test q) (list_all (list_all test) ps) (list_all test last)

pub full_with : {X : Type 0} (n : ℕ) (full : List (List X)) (last : List X) → AreFull n full
    → length last ≡ n → AreFull n (full ++ last ∷ [])
full_with n [] last are whole = (whole, tt)
full_with n (q ∷ ps) last are whole = (are.0, full_with n ps last are.1 whole)

front : {X : Type 0} (P : X → Type 0) (xs ys : List X) → All P (xs ++ ys) → All P xs
front P xs ys all = λ k d below.
    let longer = length-append xs ys in
    subst P (get_or_append_left xs ys d k below) (all k d (omega (arith, below, longer)))

rest : {X : Type 0} (P : X → Type 0) (xs ys : List X) → All P (xs ++ ys) → All P ys
rest P xs ys all = λ k d below.
    let longer = length-append xs ys in
    subst P (get_or-append-add xs ys k d) (all (length xs + k) d (omega (arith, below, longer)))

-- what holds of all holds of each piece
pub of_each : {X : Type 0} (P : X → Type 0) (full : List (List X)) (last : List X)
    → All P (pieced full last) → (k : ℕ) (d : List X) → k < length full → All P (get_or full k d)
of_each P [] last all k d below = absurd (omega (arith, below))
of_each P (q ∷ ps) last all zero d below = front P q (pieced ps last) all
of_each P (q ∷ ps) last all (suc k) d below =
    of_each P ps last (rest P q (pieced ps last) all) k d (omega (arith, below))

pub of_behind : {X : Type 0} (P : X → Type 0) (full : List (List X)) (last : List X)
    → All P (pieced full last) → All P last
of_behind P [] last all = all
of_behind P (q ∷ ps) last all = of_behind P ps last (rest P q (pieced ps last) all)
