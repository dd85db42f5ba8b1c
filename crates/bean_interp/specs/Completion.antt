-- How the legs that lack something are completed.
use Rattle.std.specs.Prelude.{◌≡◌, ◌+◌, ℕ, ⊤, true, false, List, [], ◌∷◌, ◌++◌, map, Result, Ok}
use Rattle.std.specs.Prelude.{Err}
use Rattle.std.specs.List.{AllByRecursion}
use Rattle.bean_base.specs.declared.num.Num.{Num}
use Rattle.bean_interp.specs.Due.{IsDue}
use Rattle.bean_interp.specs.Lacking.{lack_too_much}
use Rattle.bean_interp.specs.Residual.{AreInRange, lacking, residual}
use Rattle.bean_interp.specs.Tolerance.{precision}
use Rattle.refusals.specs.declared.refusal.Refusal.{Refusal}
use Rattle.bean_interp.specs.declared.cause.CompletionCause.{CompletionCause}
use Rattle.bean_interp.specs.declared.cause.CompletionCause.TheVariants as completion
use Rattle.refusals.specs.declared.refusal.Refusal.TheVariants.{OutOfMemory, Refused}
use Rattle.bean_interp.specs.declared.fill.Fill.{Fill}
use Rattle.bean_interp.specs.declared.leg.Leg.{Leg}
use Rattle.bean_interp.specs.declared.leg.Leg.TheVariants.{Whole, MissingNumber, MissingAmount}

-- the currencies that a leg takes
abbrev pub taken_by : List Leg → Leg → List (List ℕ)
taken_by legs (Whole w) = []
taken_by legs (MissingNumber c) = c ∷ []
taken_by legs MissingAmount = lacking legs

-- a leg by its number, with each currency that it takes
abbrev pub gaps_of : List Leg → ℕ → Leg → List (ℕ × List ℕ)
gaps_of legs i leg = map (λ c. (i, c)) (taken_by legs leg)

abbrev pub gaps_from : List Leg → ℕ → List Leg → List (ℕ × List ℕ)
gaps_from all i [] = []
gaps_from all i (leg ∷ legs) = gaps_of all i leg ++ gaps_from all (i + 1) legs

-- the gaps of all legs, in their order
abbrev pub gaps : List Leg → List (ℕ × List ℕ)
gaps legs = gaps_from legs 0 legs

-- the number is what is due in the currency
abbrev pub Fills : List Leg → List ℕ → Num → Type 0
Fills legs c n = IsDue (precision legs c) (residual legs c) n

abbrev pub gap_of : Fill → ℕ × List ℕ
gap_of f = (f.leg, f.amount.currency)

-- an amount for each gap, in their order, each what is due
pub record AreFills (legs : List Leg) (fills : List Fill) : Type 0 where
  pub gaps_are : map gap_of fills ≡ gaps legs
  pub are_due : AllByRecursion (λ f. Fills legs f.amount.currency f.amount.number) fills

-- a number of a ledger is due in each gap
abbrev pub CanBeFilled : List Leg → Type 0
CanBeFilled legs = AllByRecursion (λ g. (n : Num) × Fills legs g.1 n) (gaps legs)

-- what the legs take; too much may lack, or a weight, a sum or what is due may be too wide
abbrev pub Completes : List Leg → Result (List Fill) (Refusal CompletionCause) → Type 0
Completes legs (Ok fills) = (lack_too_much legs ≡ false) × AreInRange legs × AreFills legs fills
Completes legs (Err (Refused completion.LackTooMuch)) = lack_too_much legs ≡ true
Completes legs (Err (Refused completion.TooWide)) =
    (lack_too_much legs ≡ false) × ¬ (AreInRange legs × CanBeFilled legs)
Completes legs (Err OutOfMemory) = ⊤
