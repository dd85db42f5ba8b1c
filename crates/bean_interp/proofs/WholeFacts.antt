-- Legs that lack nothing.
use Rattle.std.proofs.Common.{◌≡◌, ◌+◌, ◌||◌, ℕ, true, false, List, [], ◌∷◌, Result, Err, refl}
use Rattle.std.proofs.Common.{ap, sym, ◌∙◌}
use Rattle.std.specs.List.{list_all}
use Rattle.bean_interp.specs.Completion.{AreFills, Completes, gaps_from}
use Rattle.bean_interp.specs.Lacking.{is_whole, lack_too_much}
use Rattle.bean_interp.specs.Residual.{AreInRange}
use Rattle.bean_interp.specs.Causes.{of_weighing}
use Rattle.refusals.specs.declared.refusal.Refusal.{Refusal}
use Rattle.bean_interp.specs.declared.cause.WeighCause.{WeighCause}
use Rattle.bean_interp.specs.declared.cause.WeighCause.TheVariants as weigh
use Rattle.refusals.specs.declared.refusal.Refusal.TheVariants.{OutOfMemory, Refused}
use Rattle.bean_interp.specs.declared.leg.Leg.{Leg}
use Rattle.bean_interp.specs.declared.leg.Leg.TheVariants.{Whole, MissingNumber, MissingAmount}
use Rattle.bean_interp.proofs.LackingFacts.{none_clash}

no_gaps : (all : List Leg) (i : ℕ) (legs : List Leg) → list_all is_whole legs ≡ true
    → gaps_from all i legs ≡ []
no_gaps all i [] whole = refl
no_gaps all i (Whole w ∷ legs) whole = no_gaps all (i + 1) legs whole
no_gaps all i (MissingNumber c ∷ legs) whole = cc
no_gaps all i (MissingAmount ∷ legs) whole = cc

pub none_lack : (legs : List Leg) → list_all is_whole legs ≡ true → lack_too_much legs ≡ false
none_lack [] whole = refl
none_lack (Whole w ∷ legs) whole =
    ap (λ b. b || lack_too_much legs) (none_clash w legs) ∙ none_lack legs whole
none_lack (MissingNumber c ∷ legs) whole = cc
none_lack (MissingAmount ∷ legs) whole = cc

pub none_filled : (legs : List Leg) → list_all is_whole legs ≡ true → AreFills legs []
none_filled legs whole = record {
  gaps_are = sym (no_gaps legs 0 legs whole);
  are_due = tt;
}

-- what is too wide of such legs is a weight or a sum
pub too_wide : (legs : List Leg) (r : Result (Unit {0}) (Refusal WeighCause)) (e : Refusal WeighCause)
    → list_all is_whole legs ≡ true → r ≡ Err e → (r ≡ Err (Refused weigh.TooWide) → ¬ AreInRange legs)
    → Completes legs (Err (of_weighing e))
too_wide legs r (Refused weigh.TooWide) whole is wide = (none_lack legs whole, λ both. wide is both.0)
too_wide legs r OutOfMemory whole is wide = tt
