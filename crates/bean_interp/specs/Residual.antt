-- What the legs of a transaction weigh together.
use Rattle.std.specs.Prelude.{◌+ℤ◌, ◌<◌, ◌^◌, ℕ, ℤ, pos, Bool, List, [], ◌∷◌, ◌++◌, take, fold}
use Rattle.std.specs.Prelude.{filter, not, if◌then◌else◌}
use Rattle.std.specs.List.{AllByRecursion, flat_map, list_any}
use Rattle.std.specs.Int.RustNames.{unsigned_abs}
use Rattle.std.specs.Ordering.{int_eq}
use Rattle.std.specs.Str.{bytes_eq}
use Rattle.bean_interp.specs.Weight.{currency_of, weight_of}
use Rattle.bean_interp.specs.declared.leg.Leg.{Leg}
use Rattle.bean_interp.specs.declared.leg.Leg.TheVariants.{Whole, MissingNumber, MissingAmount}

-- a count of 10^-16 of a currency
abbrev pub Weighed : Type 0
Weighed = List ℕ × ℤ

abbrev pub weighed_in : Leg → List Weighed
weighed_in (Whole w) = (currency_of w.units w.worth, weight_of w) ∷ []
weighed_in (MissingNumber c) = []
weighed_in MissingAmount = []

-- the weights of the legs that have units, in their order
abbrev pub weighed : List Leg → List Weighed
weighed legs = flat_map weighed_in legs

-- the sum of the weights in a currency
abbrev pub sum_in : List Weighed → List ℕ → ℤ
sum_in [] c = pos 0
sum_in (w ∷ ws) c = if bytes_eq w.0 c then w.1 +ℤ sum_in ws c else sum_in ws c

-- a currency that isn't there yet goes last
abbrev pub with_new : List (List ℕ) → List ℕ → List (List ℕ)
with_new cs c = if list_any (bytes_eq c) cs then cs else cs ++ (c ∷ [])

-- the currencies of weights, each once, in order of first appearance
abbrev pub currencies : List Weighed → List (List ℕ)
currencies ws = fold (λ cs w. with_new cs w.0) [] ws

abbrev pub residual : List Leg → List ℕ → ℤ
residual legs c = sum_in (weighed legs) c

-- its weights don't sum to 0
abbrev pub lacks_in : List Leg → List ℕ → Bool
lacks_in legs c = not (int_eq (residual legs c) (pos 0))

-- the currencies that lack something, in order of first appearance
abbrev pub lacking : List Leg → List (List ℕ)
lacking legs = filter (lacks_in legs) (currencies (weighed legs))

-- a weight below 10^28, signs left off
abbrev pub IsLight : Leg → Type 0
IsLight (Whole w) = unsigned_abs (weight_of w) < 10 ^ 28
IsLight (MissingNumber c) = Unit {0}
IsLight MissingAmount = Unit {0}

-- Each weight is light, and no currency's weights in some first legs sum to 10^38 or more.
pub record AreInRange (legs : List Leg) : Type 0 where
  pub light : AllByRecursion IsLight legs
  pub sums : (k : ℕ) (c : List ℕ) → unsigned_abs (residual (take k legs) c) < 10 ^ 38
