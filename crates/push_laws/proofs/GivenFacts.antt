-- What pushes give to directives, place by place.
use Rattle.std.proofs.Common.{◌≡◌, ℕ, suc, ◌&&◌, Bool, true, false, nat_le, nat_lt, List, [], ◌∷◌, ◌++◌}
use Rattle.std.proofs.Common.{Option, Some, None, refl, sym, ◌∙◌, ap}
use Rattle.std.specs.Prelude.{if◌then◌else◌}
use Rattle.bean_directives.specs.declared.directive.Directive.{Directive}
use Rattle.bean_directives.specs.declared.undated.Bound.{Bound}
use Rattle.bean_directives.specs.declared.undated.Bound.TheVariants.{Push, Pop}
use Rattle.bean_directives.specs.declared.undated.Pushed.{Pushed}
use Rattle.bean_pushes.specs.Scope.{given_behind, given_between, given_up_to, latest, name_in, name_of}
use Rattle.bean_pushes.specs.Scope.{open_pushes, reach_of, with_pushes}
use Rattle.bean_directives.specs.Given.{with_pushed}
use Rattle.bean_pushes.specs.declared.scope.PlacedBound.{PlacedBound}
use Rattle.push_laws.specs.EachPush.{given_by, pop_of, with_each}

abbrev pub given : List Pushed → Directive → Directive
given [] d = d
given (p ∷ ps) d = given ps (with_pushed p d)

-- by their places; the list's first has the place i
abbrev pub each_at : (ℕ → List Pushed) → ℕ → List Directive → List Directive
each_at F i [] = []
each_at F i (d ∷ ds) = given (F i) d ∷ each_at F (suc i) ds

given_nothing : (i : ℕ) (ds : List Directive) → each_at (λ j. []) i ds ≡ ds
given_nothing i [] = refl
given_nothing i (d ∷ ds) = ap (λ r. d ∷ r) (given_nothing (suc i) ds)

given_more : (ps qs : List Pushed) (d : Directive) → given qs (given ps d) ≡ given (ps ++ qs) d
given_more [] qs d = refl
given_more (p ∷ ps) qs d = given_more ps qs (with_pushed p d)

each_more : (F G : ℕ → List Pushed) (i : ℕ) (ds : List Directive)
    → each_at G i (each_at F i ds) ≡ each_at (λ j. F j ++ G j) i ds
each_more F G i [] = refl
each_more F G i (d ∷ ds) =
    let first = given_more (F i) (G i) d in
    let others = each_more F G (suc i) ds in
    λ j. first j ∷ others j

-- ---- one push, from a place up to another

abbrev pub between : Pushed → ℕ → ℕ → ℕ → List Pushed
between p from to i = if nat_le from i && nat_lt i to then p ∷ [] else []

abbrev pub up_to : Option Pushed → ℕ → Option ℕ → ℕ → List Pushed
up_to (Some p) from (Some to) i = between p from to i
up_to (Some p) from None i = []
up_to None from to i = []

given_if : (b : Bool) (p : Pushed) (d : Directive)
    → (if b then with_pushed p d else d) ≡ given (if b then p ∷ [] else []) d
given_if true p d = refl
given_if false p d = refl

between_is : (p : Pushed) (from to i : ℕ) (ds : List Directive)
    → given_between p from to i ds ≡ each_at (between p from to) i ds
between_is p from to i [] = refl
between_is p from to i (d ∷ ds) =
    let first = given_if (nat_le from i && nat_lt i to) p d in
    let others = between_is p from to (suc i) ds in
    λ j. first j ∷ others j

up_to_is : (p : Option Pushed) (from : ℕ) (to : Option ℕ) (ds : List Directive)
    → given_up_to p from to ds ≡ each_at (up_to p from to) 0 ds
up_to_is None from to ds = sym (given_nothing 0 ds)
up_to_is (Some p) from None ds = sym (given_nothing 0 ds)
up_to_is (Some p) from (Some to) ds = between_is p from to 0 ds

-- ---- each push up to its pop

abbrev pub by_push : PlacedBound → Bound → List PlacedBound → ℕ → List Pushed
by_push b (Push p) bs i = up_to (Some p) b.place (pop_of (name_of p) 0 bs) i
by_push b (Pop n) bs i = []

abbrev pub each_given : List PlacedBound → ℕ → List Pushed
each_given [] i = []
each_given (b ∷ bs) i = each_given bs i ++ by_push b b.bound bs i

by_push_is : (b : PlacedBound) (k : Bound) (bs : List PlacedBound) (ds : List Directive)
    → given_by b k bs ds ≡ each_at (by_push b k bs) 0 ds
by_push_is b (Push p) bs ds = up_to_is (Some p) b.place (pop_of (name_of p) 0 bs) ds
by_push_is b (Pop n) bs ds = sym (given_nothing 0 ds)

pub with_each_is : (bs : List PlacedBound) (ds : List Directive)
    → with_each bs ds ≡ each_at (each_given bs) 0 ds
with_each_is [] ds = sym (given_nothing 0 ds)
with_each_is (b ∷ bs) ds =
    ap (given_by b b.bound bs) (with_each_is bs ds)
    ∙ by_push_is b b.bound bs (each_at (each_given bs) 0 ds)
    ∙ each_more (each_given bs) (by_push b b.bound bs) 0 ds

-- ---- from push to push

abbrev pub by_latest : List PlacedBound → PlacedBound → List PlacedBound → ℕ → List Pushed
by_latest before b bs i =
    up_to (latest (open_pushes (name_in b.bound) [] (before ++ b ∷ []))) b.place
    (reach_of (name_in b.bound) bs) i

abbrev pub latest_given : List PlacedBound → List PlacedBound → ℕ → List Pushed
latest_given before [] i = []
latest_given before (b ∷ bs) i = by_latest before b bs i ++ latest_given (before ++ b ∷ []) bs i

pub with_pushes_is : (before bs : List PlacedBound) (ds : List Directive)
    → with_pushes before bs ds ≡ each_at (latest_given before bs) 0 ds
with_pushes_is before [] ds = sym (given_nothing 0 ds)
with_pushes_is before (b ∷ bs) ds =
    let after = before ++ b ∷ [] in
    with_pushes_is after bs (given_behind before b bs ds)
    ∙ ap (each_at (latest_given after bs) 0)
    (up_to_is (latest (open_pushes (name_in b.bound) [] after)) b.place (reach_of (name_in b.bound) bs) ds)
    ∙ each_more (by_latest before b bs) (latest_given after bs) 0 ds
