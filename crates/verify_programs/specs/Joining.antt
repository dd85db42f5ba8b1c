-- The least state shape above two: where paths meet.
use Rattle.std.specs.Prelude.{◌≡◌, List, [], ◌∷◌, Option, Some, None}
use Rattle.query_rows.specs.Shape.{joined}
use Rattle.query_rows.specs.declared.shape.Shape.{Shape}
use Rattle.plain_machine.specs.SectionRun.{State}
use Rattle.well_shaped.specs.StateShape.{IsStateBelow}

abbrev pub cons_if : {A : Type 0} → Option A → Option (List A) → Option (List A)
cons_if None xs = None
cons_if (Some x) None = None
cons_if (Some x) (Some xs) = Some (x ∷ xs)

-- one by one, where there are as many and each two have one
abbrev pub joined_list : {A : Type 0} → (A → A → Option A) → List A → List A → Option (List A)
joined_list f [] [] = Some []
joined_list f [] (y ∷ ys) = None
joined_list f (x ∷ xs) [] = None
joined_list f (x ∷ xs) (y ∷ ys) = cons_if (f x y) (joined_list f xs ys)

abbrev pub joined_stack : List Shape → List Shape → Option (List Shape)
joined_stack xs ys = joined_list joined xs ys

-- what two slots have in common; of different kinds or decimals it is nothing
abbrev pub joined_slot : Option Shape → Option Shape → Option Shape
joined_slot None y = None
joined_slot (Some x) None = None
joined_slot (Some x) (Some y) = joined x y

abbrev pub joined_slots : List (Option Shape) → List (Option Shape) → Option (List (Option Shape))
joined_slots xs ys = joined_list (λ x y. Some (joined_slot x y)) xs ys

abbrev pub both_if : Option (List Shape) → Option (List (Option Shape)) → Option (State Shape)
both_if None slots = None
both_if (Some xs) None = None
both_if (Some xs) (Some ys) = Some (record { stack = xs; slots = ys })

-- Shape by shape, where the stacks are equally deep and of the same kinds and decimals; slots that
-- have nothing in common become unset.
abbrev pub joined_state : State Shape → State Shape → Option (State Shape)
joined_state s t = both_if (joined_stack s.stack t.stack) (joined_slots s.slots t.slots)

-- what two join to, where it is below a third
pub record LeastState (s t d : State Shape) : Type 0 where
  pub state : State Shape
  pub joins : joined_state s t ≡ Some state
  pub below : IsStateBelow state d

-- What two state shapes join to is above both, and below all that is.
pub record JoinsAreLeast : Type 0 where
  pub above : (s t u : State Shape) → joined_state s t ≡ Some u
      → IsStateBelow s u × IsStateBelow t u
  pub least : (s t d : State Shape) → IsStateBelow s d → IsStateBelow t d → LeastState s t d
