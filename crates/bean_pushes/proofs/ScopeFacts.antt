-- What is pushed, to those between two places.
use Rattle.std.proofs.Common.{◌≡◌, ℕ, zero, suc, ◌+◌, ◌<◌, ◌≤◌, ◌&&◌, Bool, true, false, nat_le}
use Rattle.std.proofs.Common.{nat_lt, List, [], ◌∷◌, length, get_or, refl, sym, ◌∙◌, ap, arith}
use Rattle.std.proofs.lemmas.Bool.Decides.{nat_tests}
use Rattle.std.proofs.Math.ListN.{set}
use Rattle.std.specs.Prelude.{if◌then◌else◌}
use Rattle.bean_directives.specs.Given.{with_pushed}
use Rattle.bean_pushes.specs.Scope.{given_between}
use Rattle.bean_directives.specs.declared.directive.Directive.{Directive}
use Rattle.bean_directives.specs.declared.undated.Pushed.{Pushed}

le_true : (a b : ℕ) → a ≤ b → nat_le a b ≡ true
le_true a b h = grind (arith, nat_tests)

le_false : (a b : ℕ) → b < a → nat_le a b ≡ false
le_false a b h = grind (arith, nat_tests)

lt_true : (a b : ℕ) → a < b → nat_lt a b ≡ true
lt_true a b h = grind (arith, nat_tests)

lt_false : (a b : ℕ) → b ≤ a → nat_lt a b ≡ false
lt_false a b h = grind (arith, nat_tests)

abbrev chosen : Bool → Bool → Pushed → Directive → Directive
chosen a b p d = if a && b then with_pushed p d else d

first_false : (b : Bool) (p : Pushed) (d : Directive) → chosen false b p d ≡ d
first_false b p d = refl

second_false : (a : Bool) (p : Pushed) (d : Directive) → chosen a false p d ≡ d
second_false true p d = refl
second_false false p d = refl

-- before the first place nothing is given
too_early : (p : Pushed) (from to i : ℕ) (d : Directive) → i < from
    → chosen (nat_le from i) (nat_lt i to) p d ≡ d
too_early p from to i d early =
    ap (λ a. chosen a (nat_lt i to) p d) (le_false from i early) ∙ first_false (nat_lt i to) p d

too_late : (p : Pushed) (from to i : ℕ) (d : Directive) → to ≤ i
    → chosen (nat_le from i) (nat_lt i to) p d ≡ d
too_late p from to i d late =
    ap (λ b. chosen (nat_le from i) b p d) (lt_false i to late) ∙ second_false (nat_le from i) p d

-- nothing stands at the first place
pub given_past : (p : Pushed) (from to i : ℕ) (ds : List Directive) → i + length ds ≤ from
    → given_between p from to i ds ≡ ds
given_past p from to i [] past = refl
given_past p from to i (d ∷ ds) past =
    let first = too_early p from to i d (omega (arith, past)) in
    let others = given_past p from to (suc i) ds (omega (arith, past)) in
    λ j. first j ∷ others j

-- behind the first place the next place is as good
next_place : (p : Pushed) (from to i : ℕ) (ds : List Directive) → from < i
    → given_between p (suc from) to i ds ≡ given_between p from to i ds
next_place p from to i [] behind = refl
next_place p from to i (d ∷ ds) behind =
    let a = le_true (suc from) i (omega (arith, behind)) in
    let b = le_true from i (omega (arith, behind)) in
    let first = ap (λ x. chosen x (nat_lt i to) p d) (a ∙ sym b) in
    let others = next_place p from to (suc i) ds (omega (arith, behind)) in
    λ j. first j ∷ others j

-- one got it
pub given_one : (p : Pushed) (from to i k : ℕ) (ds : List Directive) (e x : Directive)
    → from ≡ i + k → from < to → k < length ds → x ≡ with_pushed p (get_or ds k e)
    → given_between p (suc from) to i (set ds k x) ≡ given_between p from to i ds
given_one p from to i k [] e x at before inside is = absurd (omega (arith, inside))
given_one p from to i zero (d ∷ ds) e x at before inside is =
    let left = too_early p (suc from) to i x (omega (arith, at)) in
    let a = le_true from i (omega (arith, at)) in
    let b = lt_true i to (omega (arith, at, before)) in
    let right : chosen (nat_le from i) (nat_lt i to) p d ≡ with_pushed p d =
    λ j. chosen (a j) (b j) p d in
    let first = left ∙ is ∙ sym right in
    let others = next_place p from to (suc i) ds (omega (arith, at)) in
    λ j. first j ∷ others j
given_one p from to i (suc k) (d ∷ ds) e x at before inside is =
    let left = too_early p (suc from) to i d (omega (arith, at)) in
    let right = too_early p from to i d (omega (arith, at)) in
    let others =
    given_one p from to (suc i) k ds e x (omega (arith, at)) before (omega (arith, inside))
    is in
    λ j. (left ∙ sym right) j ∷ others j

pub given_next : (p : Pushed) (from to next : ℕ) (ds : List Directive) (e x : Directive)
    → next ≡ suc from → from < to → from < length ds → x ≡ with_pushed p (get_or ds from e)
    → given_between p next to 0 (set ds from x) ≡ given_between p from to 0 ds
given_next p from to next ds e x after before inside is =
    ap (λ n. given_between p n to 0 (set ds from x)) after
    ∙ given_one p from to 0 from ds e x (omega arith) before inside is

-- where the places meet nothing is given

nowhere_by : (b : Bool) (p : Pushed) (from to i : ℕ) (d : Directive) → nat_lt i from ≡ b → to ≤ from
    → chosen (nat_le from i) (nat_lt i to) p d ≡ d
nowhere_by true p from to i d e met = too_early p from to i d (grind (arith, nat_tests))
nowhere_by false p from to i d e met = too_late p from to i d (grind (arith, nat_tests))

nowhere : (p : Pushed) (from to i : ℕ) (d : Directive) → to ≤ from
    → chosen (nat_le from i) (nat_lt i to) p d ≡ d
nowhere p from to i d met = nowhere_by (nat_lt i from) p from to i d refl met

reach_at : (p : Pushed) (from to i : ℕ) (ds : List Directive) → to ≤ from
    → given_between p from to i ds ≡ ds
reach_at p from to i [] met = refl
reach_at p from to i (d ∷ ds) met =
    let first = nowhere p from to i d met in
    let others = reach_at p from to (suc i) ds met in
    λ j. first j ∷ others j

pub reach : (p : Pushed) (from to : ℕ) (ds : List Directive) → to ≤ from
    → given_between p from to 0 ds ≡ ds
reach p from to ds met = reach_at p from to 0 ds met
