-- The longest front, behind an item and behind a run of items.
use Rattle.std.proofs.Common.{◌≡◌, ℕ, suc, ◌+◌, ◌-◌, ◌<◌, ◌≤◌, ◌&&◌, Bool, true, false, List, []}
use Rattle.std.proofs.Common.{◌∷◌, length, get_or, take, drop, arith, ap, sym, ◌∙◌, subst, refl}
use Rattle.std.proofs.Common.{cond, length-drop, drop-cons, add-one}
use Rattle.std.specs.List.{prefix_len, list_all}
use Rattle.theory.specs.LongestFront.{IsLongestFront}

drop_more : {A : Type 0} (i : ℕ) (bs : List A) (d : A) → i < length bs
    → drop i bs ≡ get_or bs i d ∷ drop (i + 1) bs
drop_more i bs d h = rw add-one (drop-cons bs i d h)

pub front_cons : {A : Type 0} (form rest : List A → Bool) (b : A) (bs : List A) (n : ℕ)
    → ((more : List A) → form (b ∷ more) ≡ rest more) → IsLongestFront rest bs n
    → IsLongestFront form (b ∷ bs) (1 + n)
front_cons form rest b bs n step front = record {
  inside = omega (arith, front.inside);
  of_form = let e : 1 + n ≡ suc n = omega arith in
      ap (λ k. form (take k (b ∷ bs))) e ∙ step (take n bs) ∙ front.of_form;
  longest = λ m low high.
      let e : m ≡ suc (m - 1) = omega arith in
      ap (λ k. form (take k (b ∷ bs))) e ∙ step (take (m - 1) bs)
      ∙ front.longest (m - 1) (omega arith) (omega arith);
}

-- the same at a place
pub front_at : {A : Type 0} (form rest : List A → Bool) (bs : List A) (i n : ℕ) (d : A)
    → i < length bs → ((more : List A) → form (get_or bs i d ∷ more) ≡ rest more)
    → IsLongestFront rest (drop (i + 1) bs) n → IsLongestFront form (drop i bs) (1 + n)
front_at form rest bs i n d h step front =
    subst (λ l. IsLongestFront form l (1 + n)) (sym (drop_more i bs d h))
    (front_cons form rest (get_or bs i d) (drop (i + 1) bs) n step front)

run_step :
    {A : Type 0} (form : List A → Bool) (p : A → Bool) (b : A) (bs : List A) (k n : ℕ) (t : Bool)
    → p b ≡ t → ((more : List A) → t ≡ true → form (b ∷ more) ≡ form more) →
    (IsLongestFront form (drop k bs) n → IsLongestFront form bs (k + n))
    → IsLongestFront form (drop (cond t (1 + k) 0) (b ∷ bs)) n
    → IsLongestFront form (b ∷ bs) (cond t (1 + k) 0 + n)
run_step form p b bs k n true e step rest front =
    let s : 1 + k ≡ suc k = omega arith in
    let l : 1 + (k + n) ≡ 1 + k + n = omega arith in
    subst (λ j. IsLongestFront form (b ∷ bs) j) l
    (front_cons form form b bs (k + n) (λ more. step more refl)
    (rest (subst (λ j. IsLongestFront form (drop j (b ∷ bs)) n) s front)))
run_step form p b bs k n false e step rest front =
    let l : n ≡ 0 + n = omega arith in subst (λ j. IsLongestFront form (b ∷ bs) j) l front

-- bytes that change nothing
pub front_run : {A : Type 0} (form : List A → Bool) (p : A → Bool)
    → ((b : A) → p b ≡ true → (more : List A) → form (b ∷ more) ≡ form more) →
    (bs : List A) (n : ℕ) → IsLongestFront form (drop (prefix_len p bs) bs) n
    → IsLongestFront form bs (prefix_len p bs + n)
front_run form p step [] n front = let l : n ≡ 0 + n = omega arith in
    subst (λ j. IsLongestFront form [] j) l front
front_run form p step (b ∷ bs) n front =
    run_step form p b bs (prefix_len p bs) n (p b) refl (λ more e. step b e more)
    (front_run form p step bs n) front

-- nothing goes on
pub front_end : {A : Type 0} (form : List A → Bool) (bs : List A) → form [] ≡ true
    → ((m : ℕ) → 0 < m → m ≤ length bs → form (take m bs) ≡ false) → IsLongestFront form bs 0
front_end form bs h none = record { inside = omega arith; of_form = h; longest = none }

pub front_end_nil : {A : Type 0} (form : List A → Bool) (bs : List A) (i : ℕ) → form [] ≡ true
    → length bs ≤ i → IsLongestFront form (drop i bs) 0
front_end_nil form bs i h past = let l = length-drop i bs in
    front_end form (drop i bs) h (λ m low high. absurd (omega arith))

stops_cons : {A : Type 0} (form : List A → Bool) (b : A) (bs : List A)
    → ((more : List A) → form (b ∷ more) ≡ false) → (m : ℕ) → 0 < m → form (take m (b ∷ bs)) ≡ false
stops_cons form b bs h m low = let e : m ≡ suc (m - 1) = omega arith in
    ap (λ k. form (take k (b ∷ bs))) e ∙ h (take (m - 1) bs)

pub front_end_at : {A : Type 0} (form : List A → Bool) (bs : List A) (i : ℕ) (d : A)
    → form [] ≡ true → i < length bs → ((more : List A) → form (get_or bs i d ∷ more) ≡ false)
    → IsLongestFront form (drop i bs) 0
front_end_at form bs i d h low none =
    front_end form (drop i bs) h
    (λ m some inside. ap (λ l. form (take m l)) (drop_more i bs d low)
    ∙ stops_cons form (get_or bs i d) (drop (i + 1) bs) none m some)

all_cons : {A : Type 0} (p : A → Bool) (b : A) (bs : List A) (t : Bool) → p b ≡ t
    → IsLongestFront (list_all p) bs (prefix_len p bs)
    → IsLongestFront (list_all p) (b ∷ bs) (cond t (1 + prefix_len p bs) 0)
all_cons p b bs true h front =
    front_cons (list_all p) (list_all p) b bs (prefix_len p bs)
    (λ more. ap (λ t. t && list_all p more) h) front
all_cons p b bs false h front =
    front_end (list_all p) (b ∷ bs) refl
    (λ m low high. stops_cons (list_all p) b bs (λ more. ap (λ t. t && list_all p more) h) m low)

-- the longest front all of which passes
pub all_front : {A : Type 0} (p : A → Bool) (bs : List A)
    → IsLongestFront (list_all p) bs (prefix_len p bs)
all_front p [] =
    record { inside = omega arith; of_form = refl; longest = λ m low high. absurd (omega arith) }
all_front p (b ∷ bs) = all_cons p b bs (p b) refl (all_front p bs)
