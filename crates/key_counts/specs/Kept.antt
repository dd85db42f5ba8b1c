-- How counts are kept: no key comes twice, and where keys are hashed, they are those of the counts.
use Rattle.std.specs.Prelude.{◌≡◌, ℤ, pos, Bool, List, Option, Some, None, not}
use Rattle.std.specs.List.{IsDistinct}
use Rattle.std.specs.Map.{keys_of}
use Rattle.std.specs.Ordering.{int_eq}

abbrev pub ArePlaces : {K : Type 0} → Option (List K) → List K → Type 0
ArePlaces None ks = Unit {0}
ArePlaces (Some places) ks = places ≡ ks

pub record IsKept {K : Type 0} (eq : K → K → Bool) (places : Option (List K)) (es : List (K × ℤ)) : Type 0 where
  pub distinct : IsDistinct eq (keys_of es)
  pub places_are : ArePlaces places (keys_of es)

abbrev pub is_full : {K : Type 0} → K × ℤ → Bool
is_full e = not (int_eq e.1 (pos 0))
