-- The rows of an answer: in order, each once where that is asked for, and at most so many.
use Rattle.std.specs.Prelude.{◌≡◌, ℕ, Bool, true, false, List, [], map, take, Option, Some, None}
use Rattle.std.specs.Cmp.Lexicographic.{slice_cmp}
use Rattle.theory.specs.Arrangement.{IsArrangement, by_key, against_key}
use Rattle.query_values.specs.Order.{order_of}
use Rattle.query_values.specs.declared.value.Value.{Value}
use Rattle.query_rows.specs.Same.{each_once}

-- what a row shows, and the values that it is ordered by, the most important first
pub record Ranked : Type 0 where
  pub shown : List Value
  pub ranks : List Value

-- how rows come out: from which end of the order, whether each only once, and at most how many
pub record Finish : Type 0 where
  pub is_descending : Bool
  pub is_distinct : Bool
  pub limit : Option ℕ

abbrev pub ranks_of : Ranked → List Value
ranks_of r = r.ranks

abbrev pub shown_of : Ranked → List Value
shown_of r = r.shown

-- by the first value that tells two rows apart; a descending order has null last
abbrev pub in_direction : Bool → Ranked → Ranked → Bool
in_direction false = by_key ranks_of (slice_cmp order_of)
in_direction true = against_key ranks_of (slice_cmp order_of)

abbrev pub comes_before : Finish → Ranked → Ranked → Bool
comes_before f = in_direction f.is_descending

abbrev pub once_if : Bool → List (List Value) → List (List Value)
once_if false rows = rows
once_if true rows = each_once [] rows

abbrev pub limited : Option ℕ → List (List Value) → List (List Value)
limited None rows = rows
limited (Some most) rows = take most rows

-- The rows that come out: in order, those that tie as they stood; what is shown of them; only the
-- first of rows that show the same, where each is wanted once; and at most the limit.
pub record IsFinal (f : Finish) (rows : List Ranked) (final : List (List Value)) : Type 0 where
  pub arranged : List Ranked
  pub in_order : IsArrangement (comes_before f) rows arranged
  pub is : final ≡ limited f.limit (once_if f.is_distinct (map shown_of arranged))

-- there are such rows
abbrev pub AreThere : Type 0
AreThere = (f : Finish) (rows : List Ranked) → (final : List (List Value)) × IsFinal f rows final

-- and they are told by those that go in
abbrev pub AreOne : Type 0
AreOne = (f : Finish) (rows : List Ranked) (a b : List (List Value)) → IsFinal f rows a
    → IsFinal f rows b → a ≡ b
