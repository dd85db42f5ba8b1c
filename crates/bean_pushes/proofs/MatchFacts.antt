-- What stands behind each bound, told from the last to the first; and which pushes are open, told
-- from the first to the last.
use Rattle.std.proofs.Common.{◌≡◌, ℕ, zero, suc, ◌-◌, ◌+◌, ◌<◌, ◌≤◌, ◌^◌, Bool, true, false, cond}
use Rattle.std.proofs.Common.{List, [], ◌∷◌, ◌++◌, length, get_or, take, drop, Option, Some, None}
use Rattle.std.proofs.Common.{refl, sym, ◌∙◌, ap, arith, ◌&&◌, is_some, nat_lt}
use Rattle.std.proofs.lemmas.Bool.Decides.{nat_tests}
use Rattle.std.proofs.lemmas.Slice.Eq.{bytes_eq-Decides}
use Rattle.std.proofs.lemmas.List.{append_assoc, take_more}
use Rattle.std.specs.Prelude.{if◌then◌else◌, slice_get}
use Rattle.bean_base.specs.declared.fault.Fault.{Fault}
use Rattle.std.specs.Str.{bytes_eq}
use Rattle.bean_directives.specs.declared.directive.Directive.{Directive}
use Rattle.bean_directives.specs.declared.undated.Bound.{Bound}
use Rattle.bean_directives.specs.declared.undated.Bound.TheVariants.{Push, Pop}
use Rattle.bean_directives.specs.declared.undated.Pushed.{Pushed}
use Rattle.bean_directives.specs.declared.undated.PushName.{PushName}
use Rattle.bean_directives.specs.declared.undated.PushName.TheVariants as names
use Rattle.bean_pushes.specs.Matches.{ahead_of, are_same, looked_up, reaches_of}
use Rattle.bean_pushes.specs.Scope.{name_in, name_of, same_name, open_behind, open_pushes}
use Rattle.bean_pushes.specs.Scope.{pops_before, pops_left, next_of, reach_of, fault_unless}
use Rattle.bean_pushes.specs.Scope.{given_up_to, is_matched, unmatched}
use Rattle.bean_pushes.specs.declared.matches.Ahead.{Ahead}
use Rattle.bean_pushes.specs.declared.matches.Name.{Name}
use Rattle.bean_pushes.specs.declared.scope.PlacedBound.{PlacedBound}

-- ---- pushes that are open

pub one_more : (name : PushName) (ps : List Pushed) (bs : List PlacedBound) (b : PlacedBound)
    → open_pushes name ps (bs ++ b ∷ []) ≡ open_behind name (open_pushes name ps bs) b.bound
one_more name ps [] b = refl
one_more name ps (k ∷ bs) b = one_more name (open_behind name ps k.bound) bs b

-- behind one more bound
pub open_next : (name : PushName) (bs : List PlacedBound) (b : PlacedBound) (old new : List Pushed)
    → new ≡ open_behind name old b.bound → old ≡ open_pushes name [] bs
    → new ≡ open_pushes name [] (bs ++ b ∷ [])
open_next name bs b old new is was =
    is ∙ ap (λ ps. open_behind name ps b.bound) was ∙ sym (one_more name [] bs b)

-- ---- what stands ahead

pub same_is : (a b : PushName) → same_name a b ≡ true → a ≡ b
same_is (names.Tag t) (names.Tag u) e = ap names.Tag ((bytes_eq-Decides t u).0 e)
same_is (names.Key k) (names.Key l) e = ap names.Key ((bytes_eq-Decides k l).0 e)
same_is (names.Tag t) (names.Key l) e = cc
same_is (names.Key k) (names.Tag u) e = cc

same_self : (a : PushName) → same_name a a ≡ true
same_self (names.Tag t) = (bytes_eq-Decides t t).1 refl
same_self (names.Key k) = (bytes_eq-Decides k k).1 refl

abbrev pub ahead : ℕ → ℕ → Ahead
ahead pops next = record { pops = pops; next = next }

ahead_as : (pops next pops' next' : ℕ) → pops ≡ pops' → next ≡ next'
    → ahead pops next ≡ ahead pops' next'
ahead_as pops next pops' next' p n = λ i. ahead (p i) (n i)

own_next : (b : PlacedBound) (behind : List PlacedBound)
    → b.place ≡ next_of (name_in b.bound) (b ∷ behind)
own_next b behind =
    sym (ap (λ s. cond s b.place (next_of (name_in b.bound) behind)) (same_self (name_in b.bound)))

-- the pops that are left before a push of their name, and before a pop of it

pub before_push : (b : PlacedBound) (p : Pushed) (behind : List PlacedBound) (a : Ahead)
    (pops : ℕ) → b.bound ≡ Push p → a ≡ ahead_of (name_in b.bound) behind → pops ≡ a.pops - 1
    → ahead pops b.place ≡ ahead_of (name_in b.bound) (b ∷ behind)
before_push b p behind a pops is at less =
    ahead_as pops b.place _ _
    (less ∙ ap (λ x. x.pops - 1) at
    ∙ sym (ap (λ k. pops_before (name_in b.bound) k (pops_left (name_in b.bound) behind)) is
    ∙ ap (λ s. cond s (pops_left (name_in b.bound) behind - 1) (pops_left (name_in b.bound) behind))
    (ap (λ k. same_name (name_of p) (name_in k)) is ∙ same_self (name_of p))))
    (own_next b behind)

pub before_pop : (b : PlacedBound) (n : PushName) (behind : List PlacedBound) (a : Ahead)
    (pops : ℕ) → b.bound ≡ Pop n → a ≡ ahead_of (name_in b.bound) behind → pops ≡ a.pops + 1
    → ahead pops b.place ≡ ahead_of (name_in b.bound) (b ∷ behind)
before_pop b n behind a pops is at more =
    ahead_as pops b.place _ _
    (let up : pops ≡ suc a.pops = omega (arith, more) in
    up ∙ ap (λ x. suc x.pops) at
    ∙ sym (ap (λ k. pops_before (name_in b.bound) k (pops_left (name_in b.bound) behind)) is
    ∙ ap (λ s. cond s (suc (pops_left (name_in b.bound) behind))
    (pops_left (name_in b.bound) behind))
    (ap (λ k. same_name n (name_in k)) is ∙ same_self n)))
    (own_next b behind)

-- a bound changes nothing of another name
pub other_pops : (n : PushName) (b : Bound) (count : ℕ) → same_name (name_in b) n ≡ false
    → pops_before n b count ≡ count
other_pops n (Push p) count e = ap (λ s. cond s (count - 1) count) e
other_pops n (Pop name) count e = ap (λ s. cond s (suc count) count) e

other_ahead : (n : PushName) (b : PlacedBound) (behind : List PlacedBound)
    → same_name (name_in b.bound) n ≡ false → ahead_of n behind ≡ ahead_of n (b ∷ behind)
other_ahead n b behind e =
    ahead_as (pops_left n behind) (next_of n behind) _ _
    (sym (other_pops n b.bound (pops_left n behind) e))
    (sym (ap (λ s. cond s b.place (next_of n behind)) e))

pub ahead_next : (n : PushName) (b : PlacedBound) (behind : List PlacedBound) (own old new : Ahead)
    → new ≡ (if same_name (name_in b.bound) n then own else old)
    → own ≡ ahead_of (name_in b.bound) (b ∷ behind) → old ≡ ahead_of n behind
    → new ≡ ahead_of n (b ∷ behind)
ahead_next n b behind own old new is at was = by (same_name (name_in b.bound) n) refl
  where
    by : (same : Bool) → same_name (name_in b.bound) n ≡ same → new ≡ ahead_of n (b ∷ behind)
    by true e =
        is ∙ ap (λ s. cond s own old) e ∙ at
        ∙ ap (λ m. ahead_of m (b ∷ behind)) (same_is (name_in b.bound) n e)
    by false e = is ∙ ap (λ s. cond s own old) e ∙ was ∙ other_ahead n b behind e

most_by : (same : Bool) (count : ℕ) → (if same then suc count else count) ≤ suc count
most_by true count = omega arith
most_by false count = omega arith

least_by : (same : Bool) (count : ℕ) → (if same then count - 1 else count) ≤ suc count
least_by true count = omega arith
least_by false count = omega arith

most_before : (name : PushName) (b : Bound) (count : ℕ) → pops_before name b count ≤ suc count
most_before name (Push p) count = least_by (same_name (name_of p) name) count
most_before name (Pop n) count = most_by (same_name n name) count

most_left : (name : PushName) (bs : List PlacedBound) → pops_left name bs ≤ length bs
most_left name [] = omega arith
most_left name (b ∷ bs) =
    let first = most_before name b.bound (pops_left name bs) in
    let others = most_left name bs in
    omega (arith, first, others)

pub few_ahead : (bs : List PlacedBound) (n : PushName) (a : Ahead) → a ≡ ahead_of n bs
    → length bs < 2 ^ 64 - 1 → a.pops < 2 ^ 64 - 1
few_ahead bs n a is few =
    let most = most_left n bs in
    let e = ap (λ x. x.pops) is in
    omega (arith, most, e, few)

-- ---- the reach of each bound

pub reaches_length : (bs : List PlacedBound) → length (reaches_of bs) ≡ length bs
reaches_length [] = refl
reaches_length (b ∷ bs) = ap suc (reaches_length bs)

reach_at : (bs : List PlacedBound) (i : ℕ) (d : PlacedBound) (e : Option ℕ) → i < length bs
    → get_or (reaches_of bs) i e ≡ reach_of (name_in (get_or bs i d).bound) (drop (suc i) bs)
reach_at [] i d e inside = absurd (omega (arith, inside))
reach_at (b ∷ bs) zero d e inside = refl
reach_at (b ∷ bs) (suc i) d e inside = reach_at bs i d e (omega (arith, inside))

-- ---- names as they are looked up

and_true : (b : Bool) → (b && true) ≡ b
and_true true = refl
and_true false = refl

and_false : (b : Bool) → (b && false) ≡ false
and_false true = refl
and_false false = refl

pub looked_up_alike : (a b : PushName) → are_same (looked_up a) (looked_up b) ≡ same_name a b
looked_up_alike (names.Tag t) (names.Tag u) = and_true (bytes_eq t u)
looked_up_alike (names.Key k) (names.Key l) = and_true (bytes_eq k l)
looked_up_alike (names.Tag t) (names.Key l) = and_false (bytes_eq t l)
looked_up_alike (names.Key k) (names.Tag u) = and_false (bytes_eq k u)

by_test : {V W : Type 0} (f : Option V → W) (b : Bool) (x y : Option V)
    → f (cond b x y) ≡ (if b then f x else f y)
by_test f true x y = refl
by_test f false x y = refl

-- what is kept of a name, once that of another is changed
pub kept_at : {V W : Type 0} (f : Option V → W) (key : Name) (name n : PushName) (x old : Option V)
    → key ≡ looked_up name
    → f (cond (are_same key (looked_up n)) x old) ≡ (if same_name name n then f x else f old)
kept_at f key name n x old is =
    ap (λ k. f (cond (are_same k (looked_up n)) x old)) is
    ∙ ap (λ b. f (cond b x old)) (looked_up_alike name n)
    ∙ by_test f (same_name name n) x old

-- ---- one bound after the other

pub drop_is : (bs : List PlacedBound) (i next : ℕ) (b : PlacedBound) → next ≡ suc i
    → i < length bs → b ≡ get_or bs i b → drop i bs ≡ b ∷ drop next bs
drop_is bs i next b after inside is =
    cut bs i b inside ∙ ap (λ c. c ∷ drop (suc i) bs) (sym is)
    ∙ ap (λ n. b ∷ drop n bs) (sym after)
  where
    cut : (bs : List PlacedBound) (i : ℕ) (d : PlacedBound) → i < length bs
        → drop i bs ≡ get_or bs i d ∷ drop (suc i) bs
    cut [] i d inside = absurd (omega (arith, inside))
    cut (c ∷ bs) zero d inside = refl
    cut (c ∷ bs) (suc i) d inside = cut bs i d (omega (arith, inside))

pub few_reaches : (bs : List PlacedBound) (reaches : List (Option ℕ)) (i : ℕ)
    → reaches ≡ reaches_of bs → i < length bs → i < length reaches
few_reaches bs reaches i are inside =
    let e = ap length are ∙ reaches_length bs in
    omega (arith, e, inside)

pub reach_is : (bs : List PlacedBound) (reaches : List (Option ℕ)) (i next : ℕ) (b : PlacedBound)
    (e : Option ℕ) → reaches ≡ reaches_of bs → next ≡ suc i → i < length bs → b ≡ get_or bs i b
    → get_or reaches i e ≡ reach_of (name_in b.bound) (drop next bs)
reach_is bs reaches i next b e are after inside is =
    ap (λ rs. get_or rs i e) are ∙ reach_at bs i b e inside
    ∙ ap (λ c. reach_of (name_in c.bound) (drop (suc i) bs)) (sym is)
    ∙ ap (λ n. reach_of (name_in b.bound) (drop n bs)) (sym after)

-- the bounds up to one, and that one
pub take_next : (bs : List PlacedBound) (i next : ℕ) (b : PlacedBound) → next ≡ i + 1
    → i < length bs → b ≡ get_or bs i b → take next bs ≡ take i bs ++ b ∷ []
take_next bs i next b after inside is =
    ap (λ n. take n bs) after ∙ take_more bs i b inside ∙ ap (λ c. take i bs ++ c ∷ []) (sym is)

-- what is given depends on what is pushed and on its reach
pub given_as : (p q : Option Pushed) (r t : Option ℕ) (from : ℕ) (old new : List Directive)
    → new ≡ given_up_to p from r old → p ≡ q → r ≡ t → new ≡ given_up_to q from t old
given_as p q r t from old new is same reach =
    is ∙ (λ j. given_up_to (same j) from (reach j) old)

-- ---- whether a bound is matched

some_if : (b : Bool) (n : ℕ) → is_some (if b then Some n else None) ≡ b
some_if true n = refl
some_if false n = refl

pub push_matched : (p : Pushed) (b : Bound) (before behind : List PlacedBound) (reach : Option ℕ)
    → b ≡ Push p → reach ≡ reach_of (name_in b) behind → is_some reach ≡ is_matched before b behind
push_matched p b before behind reach is at =
    ap is_some (at ∙ ap (λ k. reach_of (name_in k) behind) is)
    ∙ some_if (nat_lt 0 (pops_left (name_of p) behind)) (next_of (name_of p) behind)
    ∙ sym (ap (λ k. is_matched before k behind) is)

pub less_one : (n : ℕ) → suc n - 1 ≡ n
less_one n = omega arith

above_none : (n : ℕ) → nat_lt 0 (suc n) ≡ true
above_none n = grind (arith, nat_tests)

last_is_there : (ps : List Pushed) → is_some (slice_get ps (length ps - 1)) ≡ nat_lt 0 (length ps)
last_is_there [] = refl
last_is_there (p ∷ ps) =
    ap (λ k. is_some (slice_get (p ∷ ps) k)) (less_one (length ps)) ∙ by p ps
    ∙ sym (above_none (length ps))
  where
    by : (p : Pushed) (ps : List Pushed) → is_some (slice_get (p ∷ ps) (length ps)) ≡ true
    by p [] = refl
    by p (q ∷ ps) = by q ps

pub pop_matched : (n : PushName) (b : Bound) (before behind : List PlacedBound) (ps : List Pushed)
    (is_open : Bool) → b ≡ Pop n → ps ≡ open_pushes n [] before
    → is_open ≡ is_some (slice_get ps (length ps - 1))
    → is_open ≡ is_matched before b behind
pop_matched n b before behind ps is_open is at told =
    told ∙ last_is_there ps ∙ ap (λ xs. nat_lt 0 (length xs)) at
    ∙ sym (ap (λ k. is_matched before k behind) is)

pub one_unmatched : (bs : List PlacedBound) (i : ℕ) (b : PlacedBound) (is : Bool)
    (faults old : List Fault) → i < length bs → b ≡ get_or bs i b
    → is ≡ is_matched (take i bs) b.bound (drop (i + 1) bs)
    → faults ++ unmatched (take i bs) (drop i bs) ≡ old
    → (faults ++ fault_unless is b.line) ++ unmatched (take (i + 1) bs) (drop (i + 1) bs) ≡ old
one_unmatched bs i b is faults old inside at told left =
    let behind = drop (i + 1) bs in
    let cut : drop i bs ≡ b ∷ behind = drop_is bs i (i + 1) b (omega arith) inside at in
    let front = take_next bs i (i + 1) b refl inside at in
    ap (λ t. (faults ++ fault_unless is b.line) ++ unmatched t behind) front
    ∙ append_assoc faults (fault_unless is b.line) (unmatched (take i bs ++ b ∷ []) behind)
    ∙ ap (λ m. faults ++ (fault_unless m b.line ++ unmatched (take i bs ++ b ∷ []) behind)) told
    ∙ sym (ap (λ ds. faults ++ unmatched (take i bs) ds) cut)
    ∙ left
