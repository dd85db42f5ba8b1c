-- Which counts and places are a wide number's.
use Rattle.std.specs.Prelude.{ℕ, ℤ, ◌&&◌, Bool, nat_le, nat_lt}
use Rattle.std.specs.Int.RustNames.{unsigned_abs}
use Rattle.limits.specs.declared.counts.TheConstants.{COUNT_BOUND, MOST_PLACES}

abbrev pub is_wide : ℕ → ℤ → Bool
is_wide places count = nat_le places MOST_PLACES && nat_lt (unsigned_abs count) COUNT_BOUND
