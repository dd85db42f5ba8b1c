-- Whether a transaction balances.
use Rattle.std.specs.Prelude.{◌≡◌, ⊤, Bool, List, ℕ, pos, Result, Ok, Err, nat_le}
use Rattle.std.specs.Int.RustNames.{unsigned_abs}
use Rattle.std.specs.List.{list_all}
use Rattle.std.specs.Ordering.{int_eq}
use Rattle.bean_interp.specs.Residual.{AreInRange, currencies, residual, weighed}
use Rattle.bean_interp.specs.Tolerance.{tolerance}
use Rattle.refusals.specs.declared.refusal.Refusal.{Refusal}
use Rattle.bean_interp.specs.declared.cause.WeighCause.{WeighCause}
use Rattle.bean_interp.specs.declared.cause.WeighCause.TheVariants.{TooWide}
use Rattle.refusals.specs.declared.refusal.Refusal.TheVariants.{OutOfMemory, Refused}
use Rattle.bean_interp.specs.declared.leg.Leg.{Leg}

-- the weights in a currency sum to no more than its tolerance, sign left off
abbrev pub is_even : List Leg → List ℕ → Bool
is_even legs c = nat_le (unsigned_abs (residual legs c)) (tolerance legs c)

abbrev pub is_balanced : List Leg → Bool
is_balanced legs = list_all (is_even legs) (currencies (weighed legs))

-- the weights in a currency sum to 0, whatever its tolerance
abbrev pub comes_to_zero : List Leg → List ℕ → Bool
comes_to_zero legs c = int_eq (residual legs c) (pos 0)

abbrev pub come_to_zero : List Leg → Bool
come_to_zero legs = list_all (comes_to_zero legs) (currencies (weighed legs))

abbrev pub Judges : List Leg → Result Bool (Refusal WeighCause) → Type 0
Judges legs (Ok b) = (b ≡ is_balanced legs) × AreInRange legs
Judges legs (Err (Refused TooWide)) = ¬ AreInRange legs
Judges legs (Err OutOfMemory) = ⊤
