-- Pushes as the language tells them: each gives up to the pop that takes it back.
use Rattle.std.specs.Prelude.{ℕ, zero, suc, List, [], ◌∷◌, Option, Some, None, if◌then◌else◌}
use Rattle.bean_directives.specs.declared.directive.Directive.{Directive}
use Rattle.bean_directives.specs.declared.undated.Bound.{Bound}
use Rattle.bean_directives.specs.declared.undated.Bound.TheVariants.{Push, Pop}
use Rattle.bean_directives.specs.declared.undated.PushName.{PushName}
use Rattle.bean_pushes.specs.Scope.{given_up_to, name_of, same_name}
use Rattle.bean_pushes.specs.declared.scope.PlacedBound.{PlacedBound}

abbrev pub one_less : ℕ → Option ℕ
one_less zero = None
one_less (suc n) = Some n

-- how many later pushes of the name are still to be taken back behind a bound, or None where it is
-- the pop of the first
abbrev pub later_behind : PushName → ℕ → Bound → Option ℕ
later_behind name later (Push p) = Some (if same_name (name_of p) name then suc later else later)
later_behind name later (Pop n) = if same_name n name then one_less later else Some later

abbrev pub or_on : {A : Type 0} → Option ℕ → A → (ℕ → A) → A
or_on None a go = a
or_on (Some n) a go = go n

-- The place of the pop that takes a push of that name back, of the bounds behind it. Each later
-- push of the name takes a pop of its own before.
abbrev pub pop_of : PushName → ℕ → List PlacedBound → Option ℕ
pop_of name later [] = None
pop_of name later (b ∷ bs) =
    or_on (later_behind name later b.bound) (Some b.place) (λ n. pop_of name n bs)

abbrev pub given_by : PlacedBound → Bound → List PlacedBound → List Directive → List Directive
given_by b (Push p) behind ds = given_up_to (Some p) b.place (pop_of (name_of p) 0 behind) ds
given_by b (Pop n) behind ds = ds

-- each push, later ones before earlier ones
abbrev pub with_each : List PlacedBound → List Directive → List Directive
with_each [] ds = ds
with_each (b ∷ bs) ds = given_by b b.bound bs (with_each bs ds)
