-- Worked values of the definitions.
use Rattle.std.proofs.Common.{◌≡◌, ℕ, [], ◌∷◌, Some, None, refl}
use Rattle.std.specs.Prelude.{codes}
use Rattle.bean_directives.specs.declared.undated.Bound.TheVariants.{Push, Pop}
use Rattle.bean_directives.specs.declared.undated.PushName.TheVariants as names
use Rattle.bean_directives.specs.declared.undated.Pushed.TheVariants as pushed
use Rattle.bean_pushes.specs.Scope.{open_pushes, pops_left, reach_of, unmatched, unmatched_at}
use Rattle.bean_pushes.specs.declared.scope.PlacedBound.{PlacedBound}

abbrev push_at : ℕ → ℕ → PlacedBound
push_at line place = record { line = line; place = place; bound = Push (pushed.Tag (codes "a")) }

abbrev pop_at : ℕ → ℕ → PlacedBound
pop_at line place = record { line = line; place = place; bound = Pop (names.Tag (codes "a")) }

abbrev another_pop : PlacedBound
another_pop = record { line = 9; place = 9; bound = Pop (names.Tag (codes "b")) }

-- of two pops the first takes a push back that stands between, and none is of another name
outer_pop :
    pops_left (names.Tag (codes "a")) (another_pop ∷ push_at 2 1 ∷ pop_at 3 2 ∷ pop_at 4 5 ∷ [])
    ≡ 1
outer_pop = refl

two_pops : pops_left (names.Tag (codes "a")) (pop_at 3 2 ∷ pop_at 4 5 ∷ []) ≡ 2
two_pops = refl

no_pop : pops_left (names.Tag (codes "a")) (push_at 2 1 ∷ pop_at 3 2 ∷ []) ≡ 0
no_pop = refl

-- a pop of nothing closes no push that comes behind it
still_open :
    open_pushes (names.Tag (codes "a")) [] (pop_at 1 0 ∷ push_at 2 0 ∷ [])
    ≡ pushed.Tag (codes "a") ∷ []
still_open = refl

-- a push gives up to the next bound of its name, where one behind takes it back
up_to_the_next :
    reach_of (names.Tag (codes "a")) (another_pop ∷ push_at 2 1 ∷ pop_at 3 2 ∷ pop_at 4 5 ∷ [])
    ≡ Some 1
up_to_the_next = refl

not_taken_back : reach_of (names.Tag (codes "a")) (push_at 2 1 ∷ pop_at 3 2 ∷ []) ≡ None
not_taken_back = refl

-- a pop of nothing, and a push that is open at the end
two_faults :
    unmatched [] (pop_at 1 0 ∷ push_at 2 0 ∷ pop_at 3 1 ∷ push_at 4 1 ∷ [])
    ≡ unmatched_at 1 ∷ unmatched_at 4 ∷ []
two_faults = refl
