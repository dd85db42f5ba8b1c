-- The bounds of a text stand in order.
use Rattle.std.proofs.Common.{ℕ, ◌+◌, ◌≤◌, List, [], ◌∷◌, ◌++◌, length, sym, subst, arith}
use Rattle.std.specs.List.{AllByRecursion, flat_map}
use Rattle.bean_directives.specs.declared.undated.UndatedKind.{UndatedKind}
use Rattle.bean_directives.specs.declared.undated.UndatedKind.TheVariants as kind
use Rattle.bean_parser.specs.Parsed.{all_bounds, bounds_in, bounds_of, directives_in}
use Rattle.bean_parser.specs.declared.block.Outcome.{Outcome}
use Rattle.bean_parser.specs.declared.block.Outcome.TheVariants as outcome
use Rattle.bean_pushes.specs.declared.scope.PlacedBound.{PlacedBound}
use Rattle.bean_parser.specs.declared.statement.Statement.TheVariants.{Directive, Undated}
use Rattle.push_laws.proofs.AlikeFacts.{give_the_same}
use Rattle.push_laws.specs.Alike.{AreAlike, InOrder, TextsGiveTheSame}
use Rattle.push_laws.specs.EachPush.{with_each}

abbrev From : ℕ → List PlacedBound → Type 0
From place bs = AllByRecursion (λ (b : PlacedBound). place ≤ b.place) bs

from_before : (a b : ℕ) (bs : List PlacedBound) → a ≤ b → From b bs → From a bs
from_before a b [] h are = tt
from_before a b (c ∷ bs) h are = (omega (arith, h, are.0), from_before a b bs h are.1)

-- what stands at a place, before others that aren't before it
abbrev Behind : ℕ → List PlacedBound → Type 0
Behind place bs = From place bs × InOrder bs

of_kind : (place line : ℕ) (k : UndatedKind) (rest : List PlacedBound) → Behind place rest
    → Behind place (bounds_of place line k ++ rest)
of_kind place line (kind.Bound b) rest are = ((omega arith, are.0), (are.0, are.1))
of_kind place line (kind.Setting s) rest are = are
of_kind place line kind.Ignored rest are = are

of_outcome : (place : ℕ) (o : Outcome) (rest : List PlacedBound) → Behind place rest
    → Behind place (bounds_in place o ++ rest)
of_outcome place (outcome.Statement (Directive d)) rest are = are
of_outcome place (outcome.Statement (Undated u)) rest are = of_kind place u.line u.kind rest are
of_outcome place (outcome.Fault f) rest are = are

of_all : (place : ℕ) (os : List Outcome) → Behind place (all_bounds place os)
of_all place [] = (tt, tt)
of_all place (o ∷ os) =
    let next = place + length (directives_in o) in
    let are = of_all next os in
    of_outcome place o (all_bounds next os)
    (from_before place next (all_bounds next os) (omega arith) are.0, are.1)

pub texts_give_the_same : TextsGiveTheSame
texts_give_the_same os p come =
    subst (AreAlike (with_each (all_bounds 0 os) (flat_map directives_in os))) (sym come.directives)
    (give_the_same (all_bounds 0 os) (flat_map directives_in os) (of_all 0 os).1)
