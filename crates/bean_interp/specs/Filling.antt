-- Filling in what legs lack, one gap after the other.
use Rattle.std.specs.Prelude.{◌≡◌, ℕ, List, ◌++◌, filter, get_or, map}
use Rattle.std.specs.List.{AllByRecursion}
use Rattle.bean_base.specs.declared.num.Num.{Num}
use Rattle.bean_interp.specs.Completion.{Fills, gap_of}
use Rattle.bean_interp.specs.Residual.{currencies, lacks_in, weighed}
use Rattle.bean_interp.specs.declared.fill.Fill.{Fill}
use Rattle.bean_interp.specs.declared.leg.Leg.{Leg}

-- the currencies of the weights
abbrev pub all_currencies : List Leg → List (List ℕ)
all_currencies legs = currencies (weighed legs)

abbrev pub currency_at : List Leg → ℕ → List ℕ → List ℕ
currency_at legs i d = get_or (all_currencies legs) i d

-- the gaps of a leg in those of these currencies that lack something
abbrev pub gaps_in : List Leg → ℕ → List (List ℕ) → List (ℕ × List ℕ)
gaps_in legs leg cs = map (λ c. (leg, c)) (filter (lacks_in legs) cs)

-- an amount was added for each of these gaps, in their order
pub record AreFilled (legs : List Leg) (gaps : List (ℕ × List ℕ)) (old new : List Fill) :
    Type 0 where
  pub added : List Fill
  pub is : new ≡ old ++ added
  pub gaps_are : map gap_of added ≡ gaps
  pub are_due : AllByRecursion (λ f. Fills legs f.amount.currency f.amount.number) added

-- a number of a ledger is due in each of these gaps
abbrev pub HaveNumbers : List Leg → List (ℕ × List ℕ) → Type 0
HaveNumbers legs gaps = AllByRecursion (λ g. (n : Num) × Fills legs g.1 n) gaps
