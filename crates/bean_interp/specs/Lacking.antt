-- What legs lack.
use Rattle.std.specs.Prelude.{◌≡◌, ◌||◌, ℕ, Bool, true, false, List, [], ◌∷◌}
use Rattle.std.specs.List.{list_any}
use Rattle.std.specs.Str.{bytes_eq}
use Rattle.indexmap.specs.IndexSet.{contains}
use Rattle.bean_interp.specs.declared.lacks.Lacks.{Lacks}
use Rattle.bean_interp.specs.declared.leg.Leg.{Leg}
use Rattle.bean_interp.specs.declared.leg.Leg.TheVariants.{Whole, MissingNumber, MissingAmount}

-- two that may not stand in one transaction: amounts, numbers of one currency, or one and the other
abbrev pub clash : Leg → Leg → Bool
clash (Whole w) b = false
clash (MissingNumber c) (Whole w) = false
clash (MissingNumber c) (MissingNumber d) = bytes_eq c d
clash (MissingNumber c) MissingAmount = true
clash MissingAmount (Whole w) = false
clash MissingAmount (MissingNumber d) = true
clash MissingAmount MissingAmount = true

abbrev pub lack_too_much : List Leg → Bool
lack_too_much [] = false
lack_too_much (leg ∷ legs) = list_any (clash leg) legs || lack_too_much legs

abbrev pub is_whole : Leg → Bool
is_whole (Whole w) = true
is_whole (MissingNumber c) = false
is_whole MissingAmount = false

abbrev pub lacks_amount : Leg → Bool
lacks_amount MissingAmount = true
lacks_amount (MissingNumber c) = false
lacks_amount (Whole w) = false

abbrev pub lacks_number : Leg → Bool
lacks_number MissingAmount = false
lacks_number (MissingNumber c) = true
lacks_number (Whole w) = false

abbrev pub lacks_number_of : List ℕ → Leg → Bool
lacks_number_of c MissingAmount = false
lacks_number_of c (MissingNumber d) = bytes_eq c d
lacks_number_of c (Whole w) = false

-- what is kept of legs is what they lack
pub record AreLacked (l : Lacks) (legs : List Leg) : Type 0 where
  pub amount : l.has_amount ≡ list_any lacks_amount legs
  pub number : l.has_number ≡ list_any lacks_number legs
  pub currencies : (c : List ℕ)
      → contains bytes_eq l.currencies c ≡ list_any (lacks_number_of c) legs
