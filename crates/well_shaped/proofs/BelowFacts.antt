-- Of lesser shapes instructions make lesser ones.
use Rattle.std.proofs.Common.{◌≡◌, ℕ, List, Option, Some, None, Ok, Err, true, refl}
use Rattle.std.proofs.Common.{subst}
use Rattle.std.specs.Prelude.{option_map, option_and_then}
use Rattle.std.proofs.lemmas.Bool.{false≢true}
use Rattle.limits.specs.declared.bounds.Bounds.{Bounds}
use Rattle.query_values.specs.Unary as operation
use Rattle.query_rows.proofs.OrderFacts.{reflexive, transitive}
use Rattle.query_rows.proofs.RisingFacts.{fitting_below, unary_rises, binary_rises}
use Rattle.query_rows.specs.Keeping.{Under}
use Rattle.query_rows.specs.Rules.{Ruled, unary_shape, binary_shape}
use Rattle.query_rows.specs.Shape.{IsBelow, fitting}
use Rattle.query_rows.specs.declared.shape.Shape.{Shape}
use Rattle.query_rows.specs.declared.shape.Shape.TheVariants.{Text, Truth}
use Rattle.query_terms.specs.Column.{numbered}
use Rattle.query_terms.specs.declared.column.Column.{Column}
use Rattle.query_terms.specs.declared.column.Column.TheVariants.{Balance}
use Rattle.query_code.specs.declared.instruction.Push.{Push}
use Rattle.query_code.specs.declared.instruction.Push.TheVariants as push
use Rattle.query_code.specs.declared.program.Constant.{Constant}
use Rattle.plain_machine.specs.Pool.{key_at, operation_of}
use Rattle.plain_machine.specs.SectionRun.{State}
use Rattle.well_shaped.specs.Laws.{AreLoadsBelow}
use Rattle.well_shaped.specs.Sections.{Loads, given, shape_at, shape_by, shape_of, text_at, loaded}
use Rattle.well_shaped.specs.Sections.{is_truth, shape_acts}
use Rattle.well_shaped.specs.StateShape.{IfSet, AreActs, IsStateBelow}
use Rattle.well_shaped.proofs.FrameFacts.{each_at, each_itself, if_set_itself, states_then}
use Rattle.well_shaped.proofs.FrameFacts.{states_themselves}

pub state_reflexive : (s : State Shape) → IsStateBelow s s
state_reflexive = states_themselves IsBelow reflexive

pub state_transitive : (s t u : State Shape) → IsStateBelow s t → IsStateBelow t u
    → IsStateBelow s u
state_transitive = states_then IsBelow IsBelow IsBelow transitive

pub given_below : (a b : Ruled) → Under a b → IfSet IsBelow (given a) (given b)
given_below a (Err e) h = tt
given_below (Err e) (Ok t) h = absurd h
given_below (Ok s) (Ok t) h = h

pub same_below : (x : Option Shape) → IfSet IsBelow x x
same_below = if_set_itself IsBelow reflexive

and_then_below : (f g : Shape → Option Shape)
    → ((s t : Shape) → IsBelow s t → IfSet IsBelow (f s) (g t)) → (x y : Option Shape)
    → IfSet IsBelow x y → IfSet IsBelow (option_and_then f x) (option_and_then g y)
and_then_below f g h x None below = tt
and_then_below f g h None (Some t) below = absurd below
and_then_below f g h (Some s) (Some t) below = h s t below

module _ (pool : List Constant) (k l : Loads) (less : AreLoadsBelow k l) where
  of_posting : (f : Bounds → Shape)
      → IfSet IsBelow (option_map f k.posting) (option_map f l.posting)
  of_posting f =
      subst (λ x. IfSet IsBelow (option_map f k.posting) (option_map f x)) less.posting
      (same_below (option_map f k.posting))

  of_columns : (f : Bounds → Option Shape)
      → IfSet IsBelow (option_and_then f k.posting) (option_and_then f l.posting)
  of_columns f =
      subst (λ x. IfSet IsBelow (option_and_then f k.posting) (option_and_then f x)) less.posting
      (same_below (option_and_then f k.posting))

  column_below : (c : Column) → IfSet IsBelow (shape_of k c) (shape_of l c)
  column_below Balance = less.balance
  column_below c = of_columns (shape_by c)

  numbered_below : (o : Option Column)
      → IfSet IsBelow (option_and_then (shape_of k) o) (option_and_then (shape_of l) o)
  numbered_below None = tt
  numbered_below (Some c) = column_below c

  text_below : (key : Option (List ℕ)) → IfSet IsBelow (text_at k key) (text_at l key)
  text_below None = tt
  text_below (Some key) = of_posting (λ b. Text)

  loaded_below : (op : Push) → IfSet IsBelow (loaded pool k op) (loaded pool l op)
  loaded_below push.True = tt
  loaded_below push.False = tt
  loaded_below (push.Const i) = same_below (shape_at pool i)
  loaded_below (push.LoadColumn c) = numbered_below (numbered c)
  loaded_below (push.LoadKey i) = each_at IsBelow k.keys l.keys i less.keys
  loaded_below (push.LoadAggregate a) = each_at IsBelow k.aggregates l.aggregates a less.aggregates
  loaded_below (push.Meta i) = text_below (key_at pool i)
  loaded_below (push.EntryMeta i) = text_below (key_at pool i)
  loaded_below (push.AnyMeta i) = text_below (key_at pool i)

  fitting_kept : (s t : Shape) → IsBelow s t → IfSet IsBelow (given (fitting s)) (given (fitting t))
  fitting_kept s t h = given_below (fitting s) (fitting t) (fitting_below s t h)

  unary_below : (o : Option operation.Unary) (s t : Shape) → IsBelow s t
      → IfSet IsBelow (option_and_then (λ op. given (unary_shape op s)) o)
      (option_and_then (λ op. given (unary_shape op t)) o)
  unary_below None s t h = tt
  unary_below (Some op) s t h =
      given_below (unary_shape op s) (unary_shape op t) (unary_rises op s t h)

  truth_below : (s t : Shape) → IsBelow s t → is_truth t ≡ true → is_truth s ≡ true
  truth_below Truth t h e = refl
  truth_below s Truth h e = absurd h
  truth_below s t h e = absurd (false≢true e)

  pub acts_below : AreActs IsBelow (shape_acts pool k) (shape_acts pool l)
  acts_below = record {
    push = λ op. and_then_below (λ s. given (fitting s)) (λ s. given (fitting s)) fitting_kept
        (loaded pool k op) (loaded pool l op) (loaded_below op);
    unary = λ op. unary_below (operation_of pool op);
    binary = λ op s u t v h g. given_below (binary_shape op s u) (binary_shape op t v)
        (binary_rises op s t u v h g);
    test = truth_below;
  }

pub loads_themselves : (l : Loads) → AreLoadsBelow l l
loads_themselves l = record {
  posting = refl;
  balance = same_below l.balance;
  keys = each_itself IsBelow reflexive l.keys;
  aggregates = each_itself IsBelow reflexive l.aggregates;
}
