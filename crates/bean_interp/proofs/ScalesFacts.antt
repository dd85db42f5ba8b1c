-- Legs that are laid on the scales one by one.
use Rattle.std.proofs.Common.{◌≡◌, ℕ, List, [], ◌∷◌, ◌++◌, Result, Ok, Err, OnOk, sym, ap, ◌∙◌}
use Rattle.std.specs.Map.{lookup}
use Rattle.std.specs.Str.{bytes_eq}
use Rattle.bean_interp.specs.Residual.{AreInRange}
use Rattle.bean_interp.specs.Scales.{AreNoted, AreWeighed}
use Rattle.bean_interp.specs.Sums.{Fits, with_leg}
use Rattle.bean_interp.specs.Tolerance.{with_written}
use Rattle.bean_interp.specs.declared.leg.Leg.{Leg}
use Rattle.bean_interp.specs.declared.scales.Scales.{Scales}
use Rattle.bean_interp.proofs.PrecisionFacts.{precision_push}
use Rattle.bean_interp.proofs.WeighingFacts.{IsWeighed, no_range_with, weighs_more}

weighed_is : (s : Scales) (legs : List Leg) → AreWeighed s legs → IsWeighed s.sums legs
weighed_is s legs on = record { table_is = on.sums; range = on.range }

pub one_more_weighed : {E : Type 0} (s t : Scales) (r : Result (Unit {0}) E) (leg : Leg)
    → OnOk r (t.sums ≡ with_leg s.sums leg) → OnOk r (Fits s.sums leg)
    → OnOk r ((legs : List Leg) → AreWeighed s legs → AreWeighed t (legs ++ leg ∷ []))
one_more_weighed s t (Ok u) leg added fits = λ legs on.
    let more = weighs_more s.sums legs leg (weighed_is s legs on) fits in
    record { sums = added ∙ more.table_is; range = more.range }
one_more_weighed s t (Err e) leg added fits = tt

pub one_more_noted : {E : Type 0} (s t : Scales) (r : Result (Unit {0}) E) (leg : Leg)
    → OnOk r ((c : List ℕ)
    → lookup (bytes_eq c) t.precisions ≡ with_written leg c (lookup (bytes_eq c) s.precisions))
    → OnOk r ((legs : List Leg) → AreNoted s legs → AreNoted t (legs ++ leg ∷ []))
one_more_noted s t (Ok u) leg noted = λ legs on. record {
  precisions = λ c.
      noted c ∙ ap (with_written leg c) (on.precisions c) ∙ sym (precision_push legs leg c);
}
one_more_noted s t (Err e) leg noted = tt

-- a leg that doesn't fit is in no range, whatever stands behind it
pub too_wide_with : (s : Scales) (legs : List Leg) (leg : Leg) (later : List Leg)
    → AreWeighed s legs → ¬ Fits s.sums leg → ¬ AreInRange (legs ++ leg ∷ later)
too_wide_with s legs leg later on never = no_range_with s.sums legs leg later on.sums never
