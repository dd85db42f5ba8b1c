-- Where the values of rows lie.
use Rattle.std.specs.Prelude.{◌≡◌, ℕ, ◌+◌, ◌≤◌, List, [], ◌∷◌, drop, get_or, length, map, min, slice_range, take}
use Rattle.query_answer.specs.declared.rows.Span.{Span}
use Rattle.query_values.specs.declared.value.Value.{Value}

abbrev pub values_in : List Value → Span → List Value
values_in values s = slice_range values s.start s.end

-- where the row of a number lies
abbrev pub span_at : List Span → ℕ → Span
span_at spans n = get_or spans n (record { start = 0; end = 0 })

abbrev pub rows_in : List Value → List Span → List (List Value)
rows_in values spans = map (values_in values) spans

-- of what one list has behind another
abbrev pub between : List Value → List Value → Span
between few many = record { start = length few; end = length many }

-- each begins at `from` or behind it, and where the one before it ends or behind it; the last ends
-- within so many values
abbrev pub LieApart : ℕ → ℕ → List Span → Type 0
LieApart from count [] = from ≤ count
LieApart from count (s ∷ ss) = (from ≤ s.start) × (s.start ≤ s.end) × LieApart s.end count ss

-- up to so many values
abbrev pub narrowed_to : ℕ → Span → Span
narrowed_to width s = record { start = s.start; end = min (s.start + width) s.end }

-- a list is the same in front of a span and behind it
pub record IsSameAround (s : Span) (old new : List Value) : Type 0 where
  pub count : length new ≡ length old
  pub front : take s.start new ≡ take s.start old
  pub back : drop s.end new ≡ drop s.end old
