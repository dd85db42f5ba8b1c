-- Components, and where they end.
use Rattle.std.proofs.Common.{◌≡◌, ℕ, zero, suc, ◌+◌, ◌-◌, ◌<◌, ◌≤◌, Bool, true, false, cond}
use Rattle.std.proofs.Common.{nat_le, List, [], ◌∷◌, length, take, drop, get_or, count_by, refl}
use Rattle.std.proofs.Common.{sym, ap, ◌∙◌, arith, add-one}
use Rattle.std.proofs.Math.Seq.{drop-cons}
use Rattle.std.proofs.lemmas.Bool.Decides.{nat_tests}
use Rattle.std.proofs.lemmas.List.Splits.{length-slice_split}
use Rattle.std.proofs.lemmas.List.Sums.{sum_by-cons}
use Rattle.std.specs.List.{onto_first, join_with_byte}
use Rattle.bean_base.specs.Character.{colon}
use Rattle.bean_base.specs.Name.{is_colon}
use Rattle.query_values.specs.Component.{components, root_part, parent_part, leaf_part, end_after}

-- one step of the search, at a place i with n components left
step : (bs : List ℕ) (i : ℕ) → i < length bs → drop i bs ≡ get_or bs i 0 ∷ drop (i + 1) bs
step bs i below = rw add-one (drop-cons bs i 0 below)

is_one : (b : ℕ) → b ≡ 58 → is_colon b ≡ true
is_one b e = grind (arith, nat_tests)

is_none : (b : ℕ) → (b ≡ 58 → ⊥) → is_colon b ≡ false
is_none b h = grind (arith, nat_tests)

pub at_colon : (bs : List ℕ) (i : ℕ) → i < length bs → get_or bs i 0 ≡ 58
    → end_after 1 (drop i bs) ≡ 0
at_colon bs i below e =
    ap (end_after 1) (step bs i below)
    ∙ ap (λ c. cond c 0 (1 + end_after 1 (drop (i + 1) bs))) (is_one (get_or bs i 0) e)

more_than_one : (n : ℕ) → 1 < n → nat_le n 1 ≡ false
more_than_one n h = grind (arith, nat_tests)

pub past_colon : (bs : List ℕ) (i n : ℕ) → i < length bs → get_or bs i 0 ≡ 58 → 1 < n
    → end_after n (drop i bs) ≡ 1 + end_after (n - 1) (drop (i + 1) bs)
past_colon bs i n below e more =
    ap (end_after n) (step bs i below)
    ∙ ap (λ c. cond c (cond (nat_le n 1) 0 (1 + end_after (n - 1) (drop (i + 1) bs)))
    (1 + end_after n (drop (i + 1) bs))) (is_one (get_or bs i 0) e)
    ∙ ap (λ c. cond c 0 (1 + end_after (n - 1) (drop (i + 1) bs))) (more_than_one n more)

pub past_other : (bs : List ℕ) (i n : ℕ) → i < length bs → (get_or bs i 0 ≡ 58 → ⊥)
    → end_after n (drop i bs) ≡ 1 + end_after n (drop (i + 1) bs)
past_other bs i n below h =
    ap (end_after n) (step bs i below)
    ∙ ap (λ c. cond c (cond (nat_le n 1) 0 (1 + end_after (n - 1) (drop (i + 1) bs)))
    (1 + end_after n (drop (i + 1) bs))) (is_none (get_or bs i 0) h)

drop_all : (bs : List ℕ) (i : ℕ) → length bs ≤ i → drop i bs ≡ []
drop_all [] zero h = refl
drop_all [] (suc i) h = refl
drop_all (b ∷ bs) zero h = absurd (omega (arith, h))
drop_all (b ∷ bs) (suc i) h = drop_all bs i (omega (arith, h))

pub at_end : (bs : List ℕ) (i n : ℕ) → length bs ≤ i → end_after n (drop i bs) ≡ 0
at_end bs i n h = ap (end_after n) (drop_all bs i h)

-- a name has a first component
pub record Parts (bs : List ℕ) : Type 0 where
  pub first : List ℕ
  pub others : List (List ℕ)
  pub are : components bs ≡ first ∷ others

in_front : (b : ℕ) (ps : List (List ℕ))
    → (first : List ℕ) × (others : List (List ℕ)) × (onto_first b ps ≡ first ∷ others)
in_front b [] = (b ∷ [], [], refl)
in_front b (p ∷ ps) = (b ∷ p, ps, refl)

parts : (bs : List ℕ) → Parts bs
parts [] = record { first = []; others = []; are = refl }
parts (b ∷ bs) = by (is_colon b) refl
  where
    by : (c : Bool) → is_colon b ≡ c → Parts (b ∷ bs)
    by true e =
        record {
          first = [];
          others = components bs;
          are =
              ap (λ c. cond c ([] ∷ components bs) (onto_first b (components bs))) e;
        }
    by false e =
        let front = in_front b (components bs) in
        record {
          first = front.0;
          others = front.1;
          are =
              ap (λ c. cond c ([] ∷ components bs) (onto_first b (components bs))) e ∙ front.2;
        }

joined_in_front : (b : ℕ) (n : ℕ) (p : List ℕ) (ps : List (List ℕ))
    → join_with_byte colon (take (suc n) (onto_first b (p ∷ ps)))
    ≡ b ∷ join_with_byte colon (take (suc n) (p ∷ ps))
joined_in_front b zero p ps = refl
joined_in_front b (suc n) p [] = refl
joined_in_front b (suc n) p (q ∷ ps) = refl

colon_is : (b : ℕ) → is_colon b ≡ true → colon ≡ b
colon_is b h = grind (arith, nat_tests)

next_byte : (k b : ℕ) (bs : List ℕ) → take (1 + k) (b ∷ bs) ≡ b ∷ take k bs
next_byte k b bs = let same : 1 + k ≡ suc k = omega arith in ap (λ n. take n (b ∷ bs)) same

less_one : (n : ℕ) → suc (suc n) - 1 ≡ suc n
less_one n = omega arith

-- a colon comes first
behind_colon : (b n : ℕ) (bs : List ℕ) → Parts bs → is_colon b ≡ true
    → root_part (suc n) bs ≡ take (end_after (suc n) bs) bs
    → join_with_byte colon ([] ∷ take (suc n) (components bs)) ≡ b ∷ take (end_after (suc n) bs) bs
behind_colon b n bs p e ih =
    ap (λ l. join_with_byte colon ([] ∷ take (suc n) l)) p.are
    ∙ ap (λ c. c ∷ join_with_byte colon (take (suc n) (p.first ∷ p.others))) (colon_is b e)
    ∙ ap (λ l. b ∷ join_with_byte colon (take (suc n) l)) (sym p.are)
    ∙ ap (λ l. b ∷ l) ih

behind_other : (b n : ℕ) (bs : List ℕ) → Parts bs
    → root_part (suc n) bs ≡ take (end_after (suc n) bs) bs
    → join_with_byte colon (take (suc n) (onto_first b (components bs)))
    ≡ b ∷ take (end_after (suc n) bs) bs
behind_other b n bs p ih =
    ap (λ l. join_with_byte colon (take (suc n) (onto_first b l))) p.are
    ∙ joined_in_front b n p.first p.others
    ∙ ap (λ l. b ∷ join_with_byte colon (take (suc n) l)) (sym p.are)
    ∙ ap (λ l. b ∷ l) ih

-- the first components end at that place
front : (bs : List ℕ) (n : ℕ) → root_part (suc n) bs ≡ take (end_after (suc n) bs) bs
front [] zero = refl
front [] (suc n) = refl
front (b ∷ bs) n = by (is_colon b) refl (front bs) (parts bs) n
  where
    by : (c : Bool) → is_colon b ≡ c
        → ((m : ℕ) → root_part (suc m) bs ≡ take (end_after (suc m) bs) bs) → Parts bs → (n : ℕ)
        → join_with_byte colon
        (take (suc n) (cond c ([] ∷ components bs) (onto_first b (components bs))))
        ≡ take (cond c (cond (nat_le (suc n) 1) 0 (1 + end_after (suc n - 1) bs))
        (1 + end_after (suc n) bs)) (b ∷ bs)
    by true e ih p zero = refl
    by true e ih p (suc n) =
        behind_colon b n bs p e (ih n) ∙ sym (next_byte (end_after (suc n) bs) b bs)
        ∙ ap (λ m. take (1 + end_after m bs) (b ∷ bs)) (sym (less_one n))
        ∙ ap (λ c. take (cond c 0 (1 + end_after (suc (suc n) - 1) bs)) (b ∷ bs))
        (sym (more_than_one (suc (suc n)) (omega arith)))
    by false e ih p n = behind_other b n bs p (ih n) ∙ sym (next_byte (end_after (suc n) bs) b bs)

pub root_at : (n : ℕ) (bs : List ℕ) → 0 < n → root_part n bs ≡ take (end_after n bs) bs
root_at zero bs h = absurd (omega arith)
root_at (suc n) bs h = front bs n

counted : (bs : List ℕ) → length (components bs) - 1 ≡ count_by is_colon bs
counted bs = omega (arith, length-slice_split is_colon bs)

pub parent_at : (bs : List ℕ) → parent_part bs ≡ root_part (count_by is_colon bs) bs
parent_at bs = ap (λ n. join_with_byte colon (take n (components bs))) (counted bs)

pub no_parent : (bs : List ℕ) → count_by is_colon bs ≡ 0 → parent_part bs ≡ []
no_parent bs none = parent_at bs ∙ ap (λ n. join_with_byte colon (take n (components bs))) none

-- what stands behind the colon number n
abbrev rest_after : ℕ → List ℕ → List ℕ
rest_after zero bs = bs
rest_after (suc n) bs = drop (end_after (suc n) bs + 1) bs

one_colon : (b : ℕ) (bs : List ℕ) → is_colon b ≡ true
    → count_by is_colon (b ∷ bs) ≡ 1 + count_by is_colon bs
one_colon b bs e =
    sum_by-cons (λ x. cond (is_colon x) 1 0) b bs ∙ ap (λ c. cond c 1 0 + count_by is_colon bs) e

no_colon : (b : ℕ) (bs : List ℕ) → is_colon b ≡ false
    → count_by is_colon (b ∷ bs) ≡ count_by is_colon bs
no_colon b bs e =
    sum_by-cons (λ x. cond (is_colon x) 1 0) b bs ∙ ap (λ c. cond c 1 0 + count_by is_colon bs) e
    ∙ nothing_more (count_by is_colon bs)
  where
    nothing_more : (n : ℕ) → 0 + n ≡ n
    nothing_more n = omega arith

drop_next : (k b : ℕ) (bs : List ℕ) → drop (1 + k + 1) (b ∷ bs) ≡ drop (k + 1) bs
drop_next k b bs = let same : 1 + k + 1 ≡ suc (k + 1) = omega arith in
    ap (λ n. drop n (b ∷ bs)) same

last : (bs : List ℕ) (n : ℕ) → count_by is_colon bs ≡ n
    → get_or (components bs) n [] ≡ rest_after n bs
last [] zero e = refl
last [] (suc n) e = absurd (omega (arith, e))
last (b ∷ bs) n e = by (is_colon b) refl (last bs) (parts bs) n e
  where
    by : (c : Bool) → is_colon b ≡ c
        → ((m : ℕ) → count_by is_colon bs ≡ m → get_or (components bs) m [] ≡ rest_after m bs)
        → Parts bs → (n : ℕ) → count_by is_colon (b ∷ bs) ≡ n
        → get_or (cond c ([] ∷ components bs) (onto_first b (components bs))) n []
        ≡ rest_after n (b ∷ bs)
    by true e ih p zero count = absurd (omega (arith, count, one_colon b bs e))
    by true e ih p (suc zero) count =
        ih 0 (omega (arith, count, one_colon b bs e))
        ∙ ap (λ c. drop (cond c 0 (1 + end_after 1 bs) + 1) (b ∷ bs)) (sym e)
    by true e ih p (suc (suc n)) count =
        ih (suc n) (omega (arith, count, one_colon b bs e))
        ∙ sym (drop_next (end_after (suc n) bs) b bs)
        ∙ ap (λ m. drop (1 + end_after m bs + 1) (b ∷ bs)) (sym (less_one n))
        ∙ ap (λ c. drop (cond c 0 (1 + end_after (suc (suc n) - 1) bs) + 1) (b ∷ bs))
        (sym (more_than_one (suc (suc n)) (omega arith)))
        ∙ ap (λ c.
        drop (cond c (cond (nat_le (suc (suc n)) 1) 0 (1 + end_after (suc (suc n) - 1) bs))
        (1 + end_after (suc (suc n)) bs) + 1) (b ∷ bs)) (sym e)
    by false e ih p zero count =
        ap (λ l. get_or (onto_first b l) 0 []) p.are ∙ ap (λ l. b ∷ get_or l 0 []) (sym p.are)
        ∙ ap (λ l. b ∷ l) (ih 0 (omega (arith, count, no_colon b bs e)))
    by false e ih p (suc n) count =
        ap (λ l. get_or (onto_first b l) (suc n) []) p.are
        ∙ ap (λ l. get_or l (suc n) []) (sym p.are)
        ∙ ih (suc n) (omega (arith, count, no_colon b bs e))
        ∙ sym (drop_next (end_after (suc n) bs) b bs)
        ∙ ap (λ c.
        drop (cond c (cond (nat_le (suc n) 1) 0 (1 + end_after (suc n - 1) bs))
        (1 + end_after (suc n) bs) + 1) (b ∷ bs)) (sym e)

pub leaf_at : (bs : List ℕ) (n : ℕ) → count_by is_colon bs ≡ n → 0 < n
    → leaf_part bs ≡ drop (end_after n bs + 1) bs
leaf_at bs zero e h = absurd (omega arith)
leaf_at bs (suc n) e h = ap (λ m. get_or (components bs) m []) (counted bs ∙ e) ∙ last bs (suc n) e

pub whole_leaf : (bs : List ℕ) → count_by is_colon bs ≡ 0 → leaf_part bs ≡ bs
whole_leaf bs e = ap (λ m. get_or (components bs) m []) (counted bs ∙ e) ∙ last bs 0 e

-- a name has the place of each of its colons
pub inside : (bs : List ℕ) (n : ℕ) → 0 < n → n ≤ count_by is_colon bs → end_after n bs < length bs
inside [] n some h = absurd (omega (arith, h))
inside (b ∷ bs) n some h = by (is_colon b) refl (inside bs) n some h
  where
    by : (c : Bool) → is_colon b ≡ c
        → ((m : ℕ) → 0 < m → m ≤ count_by is_colon bs → end_after m bs < length bs) → (n : ℕ)
        → 0 < n → n ≤ count_by is_colon (b ∷ bs)
        → cond c (cond (nat_le n 1) 0 (1 + end_after (n - 1) bs)) (1 + end_after n bs)
        < length (b ∷ bs)
    by true e ih n some h = first (nat_le n 1) refl
      where
        first : (d : Bool) → nat_le n 1 ≡ d → cond d 0 (1 + end_after (n - 1) bs) < length (b ∷ bs)
        first true d = omega arith
        first false d = let more : 1 < n = grind (arith, nat_tests) in
            omega (arith, ih (n - 1) (omega arith) (omega (arith, h, one_colon b bs e)))
    by false e ih n some h = omega (arith, ih n some (omega (arith, h, no_colon b bs e)))

pub ruleset of_components = (at_colon, past_colon, past_other, at_end)
