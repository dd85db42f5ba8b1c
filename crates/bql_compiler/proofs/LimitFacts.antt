-- What keeps within the limits of a program, and what doesn't.
use Rattle.std.proofs.Common.{◌≡◌, ◌≤◌, ◌<◌, ◌⊎◌, inl, inr, ℕ, Bool, true, false, ◌&&◌, List, []}
use Rattle.std.proofs.Common.{◌∷◌, length, map, max, refl, sym, ap, subst, ◌∙◌, arith, nat_le}
use Rattle.std.proofs.Common.{if◌then◌else◌, suc, ◌++◌}
use Rattle.std.proofs.lemmas.Bool.Decides.{nat_tests}
use Rattle.limits.specs.declared.bounds.Bounds.{Bounds}
use Rattle.limits.specs.declared.counts.TheConstants.{LONGEST_SECTION, MOST_ITEMS, MOST_VALUES}
use Rattle.bql_code.proofs.PoolFacts.{pooled_behind}
use Rattle.bql_code.proofs.SizeFacts.{code_size, all_code_size}
use Rattle.bql_code.specs.Pool.{pooled}
use Rattle.query_code.specs.declared.program.Constant.{Constant}
use Rattle.bql_code.specs.Code.{all_depth, all_size, depth, size}
use Rattle.bql_parser.specs.Asked.{Asked}
use Rattle.bql_plan.specs.Plan.{Plan, plan}
use Rattle.bql_compiler.specs.Program.{IsTooDeep, IsTooLong, of_groups, parts_of}
use Rattle.bql_compiler.specs.Program.{pool_of, sections_of}
use Rattle.bql_types.specs.Gathered.{aggregate_in}
use Rattle.bql_compiler.specs.Limits.{are_shallow, are_short}

above : (n most : ℕ) → nat_le n most ≡ false → most < n
above n most h = grind (arith, nat_tests, h)

within : (n most : ℕ) → nat_le n most ≡ true → n ≤ most
within n most h = grind (arith, nat_tests, h)

-- the first of three that fails
abbrev OneAbove : ℕ → ℕ → ℕ → ℕ → Type 0
OneAbove most a b c = (most < a) ⊎ (most < b) ⊎ (most < c)

one_above_by : (most a b c : ℕ) (x y z : Bool) → nat_le a most ≡ x → nat_le b most ≡ y
    → nat_le c most ≡ z → (x && (y && z)) ≡ false → OneAbove most a b c
one_above_by most a b c false y z hx hy hz e = inl (above a most hx)
one_above_by most a b c true false z hx hy hz e = inr (inl (above b most hy))
one_above_by most a b c true true false hx hy hz e = inr (inr (above c most hz))
one_above_by most a b c true true true hx hy hz e = absurd cc

one_above : (most a b c : ℕ) → (nat_le a most && (nat_le b most && nat_le c most)) ≡ false
    → OneAbove most a b c
one_above most a b c e = one_above_by most a b c _ _ _ refl refl refl e

first_true : (a b : Bool) → (a && b) ≡ true → a ≡ true
first_true true b e = refl
first_true false b e = absurd cc

second_true : (a b : Bool) → (a && b) ≡ true → b ≡ true
second_true true b e = e
second_true false b e = absurd cc

-- ---- too long

mapped_length : {A B : Type 0} (f : A → B) (xs : List A) → length (map f xs) ≡ length xs
mapped_length f [] = refl
mapped_length f (x ∷ xs) = ap suc (mapped_length f xs)

by_groups : {A B : Type 0} (is : Bool) (f : A → B) (xs : List A)
    → length (if is then map f xs else []) ≡ length (if is then xs else [])
by_groups true f xs = mapped_length f xs
by_groups false f xs = refl

groups_length : {A B : Type 0} (p : Plan) (f : A → B) (xs : List A)
    → length (of_groups p (map f xs)) ≡ length (of_groups p xs)
groups_length p f xs = by_groups p.grouping.is_aggregating f xs

pub too_many : (b : Bounds) (q : Asked) → MOST_ITEMS < length (of_groups (plan q) (plan q).aggregates)
    → IsTooLong (parts_of b q)
too_many b q h =
    let e = groups_length (plan q) (aggregate_in b) (plan q).aggregates in
    inr (inr (inr (inr (omega (arith, h, e)))))

pub too_large : (b : Bounds) (q : Asked)
    → LONGEST_SECTION < length (pool_of (sections_of b q (plan q))) → IsTooLong (parts_of b q)
too_large b q h = inr (inr (inr (inl h)))

pub too_long : (b : Bounds) (q : Asked) → are_short (sections_of b q (plan q)) ≡ false
    → IsTooLong (parts_of b q)
too_long b q e =
    let s = sections_of b q (plan q) in
    by (one_above LONGEST_SECTION (size s.filter) (all_size s.row) (all_size s.last) e)
  where
    by : OneAbove LONGEST_SECTION (size (sections_of b q (plan q)).filter)
        (all_size (sections_of b q (plan q)).row) (all_size (sections_of b q (plan q)).last)
        → IsTooLong (parts_of b q)
    by (inl h) =
        let s = sections_of b q (plan q) in
        inl (subst (λ n. LONGEST_SECTION < n) (sym (code_size (pool_of s) 0 s.filter)) h)
    by (inr (inl h)) =
        let s = sections_of b q (plan q) in
        inr (inl (subst (λ n. LONGEST_SECTION < n) (sym (all_code_size (pool_of s) 0 s.row)) h))
    by (inr (inr h)) =
        let s = sections_of b q (plan q) in
        inr (inr (inl (subst (λ n. LONGEST_SECTION < n)
        (sym (all_code_size (pool_of s) 0 s.last)) h)))

pub not_too_long : (b : Bounds) (q : Asked)
    → length (of_groups (plan q) (plan q).aggregates) ≤ MOST_ITEMS
    → are_short (sections_of b q (plan q)) ≡ true
    → length (pool_of (sections_of b q (plan q))) ≤ LONGEST_SECTION → ¬ IsTooLong (parts_of b q)
not_too_long b q few short small long = by long
  where
    by : IsTooLong (parts_of b q) → ⊥
    by (inl h) =
        let s = sections_of b q (plan q) in
        let l = within (size s.filter) LONGEST_SECTION (first_true _ _ short) in
        let e = code_size (pool_of s) 0 s.filter in
        omega (arith, h, l, e)
    by (inr (inl h)) =
        let s = sections_of b q (plan q) in
        let l = within (all_size s.row) LONGEST_SECTION (first_true _ _ (second_true _ _ short)) in
        let e = all_code_size (pool_of s) 0 s.row in
        omega (arith, h, l, e)
    by (inr (inr (inl h))) =
        let s = sections_of b q (plan q) in
        let l = within (all_size s.last) LONGEST_SECTION (second_true _ _ (second_true _ _ short)) in
        let e = all_code_size (pool_of s) 0 s.last in
        omega (arith, h, l, e)
    by (inr (inr (inr (inl h)))) = omega (arith, h, small)
    by (inr (inr (inr (inr h)))) =
        let e = groups_length (plan q) (aggregate_in b) (plan q).aggregates in
        omega (arith, h, few, e)

-- ---- too deep

deep_by : (most a b c : ℕ) → OneAbove most a b c → most < max a (max b c)
deep_by most a b c (inl h) = omega (arith, h)
deep_by most a b c (inr (inl h)) = omega (arith, h)
deep_by most a b c (inr (inr h)) = omega (arith, h)

pub too_deep : (b : Bounds) (q : Asked) → are_shallow (sections_of b q (plan q)) ≡ false
    → IsTooDeep b q
too_deep b q e =
    let s = sections_of b q (plan q) in
    deep_by MOST_VALUES (depth s.filter) (all_depth 0 s.row) (all_depth 0 s.last)
    (one_above MOST_VALUES (depth s.filter) (all_depth 0 s.row) (all_depth 0 s.last) e)

pub not_too_deep : (b : Bounds) (q : Asked) → are_shallow (sections_of b q (plan q)) ≡ true
    → ¬ IsTooDeep b q
not_too_deep b q e deep =
    let s = sections_of b q (plan q) in
    let f = within (depth s.filter) MOST_VALUES (first_true _ _ e) in
    let r = within (all_depth 0 s.row) MOST_VALUES (first_true _ _ (second_true _ _ e)) in
    let l = within (all_depth 0 s.last) MOST_VALUES (second_true _ _ (second_true _ _ e)) in
    omega (arith, deep, f, r, l)

-- ---- the pool

pub pool_is : (first second third : List Constant)
    → pooled (pooled (pooled [] first) second) third ≡ pooled [] (first ++ (second ++ third))
pool_is first second third =
    pooled_behind (pooled [] first) second third ∙ pooled_behind [] first (second ++ third)
