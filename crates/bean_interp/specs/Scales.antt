-- Scales with a transaction on them.
use Rattle.std.specs.Prelude.{◌≡◌, ℕ, List, Result, Ok, Err}
use Rattle.std.specs.Map.{lookup}
use Rattle.std.specs.Str.{bytes_eq}
use Rattle.bean_interp.specs.Completion.{Fills}
use Rattle.bean_interp.specs.Due.{HasNoDue}
use Rattle.bean_interp.specs.Residual.{AreInRange, residual, weighed}
use Rattle.bean_interp.specs.Sums.{table}
use Rattle.bean_interp.specs.Tolerance.{precision}
use Rattle.refusals.specs.declared.refusal.Refusal.{Refusal}
use Rattle.bean_interp.specs.declared.cause.WeighCause.{WeighCause}
use Rattle.bean_interp.specs.declared.cause.WeighCause.TheVariants.{TooWide}
use Rattle.refusals.specs.declared.refusal.Refusal.TheVariants.{Refused}
use Rattle.bean_interp.specs.declared.fill.Fill.{Fill}
use Rattle.bean_interp.specs.declared.leg.Leg.{Leg}
use Rattle.bean_interp.specs.declared.scales.Scales.{Scales}

-- these legs lie on the scales, and are in range
pub record AreWeighed (s : Scales) (legs : List Leg) : Type 0 where
  pub sums : s.sums ≡ table (weighed legs)
  pub range : AreInRange legs

-- their decimals are noted
pub record AreNoted (s : Scales) (legs : List Leg) : Type 0 where
  pub precisions : (c : List ℕ) → lookup (bytes_eq c) s.precisions ≡ precision legs c

-- both
pub record AreSet (s : Scales) (legs : List Leg) : Type 0 where
  pub weighed : AreWeighed s legs
  pub noted : AreNoted s legs

-- no number of a ledger is due in the currency
abbrev pub HasNoFill : List Leg → List ℕ → Type 0
HasNoFill legs c = HasNoDue (precision legs c) (residual legs c)

pub record IsFill (legs : List Leg) (leg : ℕ) (c : List ℕ) (f : Fill) : Type 0 where
  pub leg_is : f.leg ≡ leg
  pub currency_is : f.amount.currency ≡ c
  pub fills : Fills legs c f.amount.number

abbrev pub GivesFill : List Leg → ℕ → List ℕ → Result Fill (Refusal WeighCause) → Type 0
GivesFill legs leg c (Ok f) = IsFill legs leg c f
GivesFill legs leg c (Err (Refused TooWide)) = HasNoFill legs c
GivesFill legs leg c (Err e) = ⊥
