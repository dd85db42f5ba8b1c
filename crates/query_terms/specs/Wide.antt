-- The wide number of a count and places.
use Rattle.std.specs.Prelude.{◌≡◌, ◌≤◌, ◌<◌, ℕ, ℤ, pos, Bool, true, false}
use Rattle.std.specs.Prelude.{Option, Some, None, refl}
use Rattle.std.specs.Int.RustNames.{unsigned_abs}
use Rattle.std.proofs.Common.{arith}
use Rattle.std.proofs.lemmas.Grind.{common_steps}
use Rattle.limits.specs.declared.counts.TheConstants.{COUNT_BOUND, MOST_PLACES}
use Rattle.query_terms.specs.WideCount.{is_wide}
use Rattle.query_terms.specs.declared.decimal.Decimal.{Decimal}

pub is_narrow : (places : ℕ) (count : ℤ) → is_wide places count ≡ true → places ≤ MOST_PLACES
is_narrow places count is = grind (arith, common_steps)

pub is_in_range : (places : ℕ) (count : ℤ) → is_wide places count ≡ true
    → unsigned_abs count < COUNT_BOUND
is_in_range places count is = grind (arith, common_steps)

abbrev pub decimal_where : (places : ℕ) (count : ℤ) (b : Bool) → is_wide places count ≡ b
    → Option Decimal
decimal_where places count true is =
    Some (record {
      count = count;
      places = places;
      narrow = is_narrow places count is;
      in_range =
          is_in_range places count is;
    })
decimal_where places count false is = None

-- the number of that count and places, where it is one
abbrev pub decimal_of : ℕ → ℤ → Option Decimal
decimal_of places count = decimal_where places count (is_wide places count) refl

abbrev pub zero : Decimal
zero = record {
  count = pos 0;
  places = 0;
  narrow = is_narrow 0 (pos 0) refl;
  in_range =
      is_in_range 0 (pos 0) refl;
}
