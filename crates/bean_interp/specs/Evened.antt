-- What completion leaves of a transaction's residuals.
use Rattle.std.specs.Prelude.{◌≡◌, ◌++◌, ◌≤◌, ℕ, ℤ, false, List, map}
use Rattle.std.specs.Int.RustNames.{unsigned_abs}
use Rattle.std.specs.List.{AllByRecursion}
use Rattle.bean_interp.specs.Completion.{AreFills}
use Rattle.bean_interp.specs.Lacking.{lack_too_much}
use Rattle.bean_interp.specs.Residual.{Weighed, sum_in, weighed}
use Rattle.bean_interp.specs.Tolerance.{tolerance}
use Rattle.bean_base.specs.Counts.{at_16}
use Rattle.bean_interp.specs.declared.fill.Fill.{Fill}
use Rattle.bean_interp.specs.declared.leg.Leg.{Leg}

-- an amount that is filled in weighs itself
abbrev pub weight_of_fill : Fill → Weighed
weight_of_fill f = (f.amount.currency, at_16 f.amount.number)

-- what all weighs in a currency once the amounts are filled in
abbrev pub completed_residual : List Leg → List Fill → List ℕ → ℤ
completed_residual legs fills c = sum_in (weighed legs ++ map weight_of_fill fills) c

abbrev pub IsEvened : List Leg → List Fill → Fill → Type 0
IsEvened legs fills f =
    unsigned_abs (completed_residual legs fills f.amount.currency)
    ≤ tolerance legs f.amount.currency

-- A completed transaction balances in every currency that was filled in.
abbrev pub CompletionBalances : Type 0
CompletionBalances =
    (legs : List Leg) (fills : List Fill) → lack_too_much legs ≡ false → AreFills legs fills
    → AllByRecursion (IsEvened legs fills) fills
