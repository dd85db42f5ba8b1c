use Rattle.std.proofs.Common.{◌≤◌, ◌^◌, List, Err, arith, length, subst}
use Rattle.std.proofs.lemmas.List.{length-map}
use Rattle.bean_interp.specs.Balance.{Judges}
use Rattle.bean_interp.specs.Residual.{AreInRange}
use Rattle.bean_interp.specs.declared.cause.WeighCause.{WeighCause}
use Rattle.bean_interp.specs.declared.cause.WeighCause.TheVariants.{TooWide}
use Rattle.bean_interp.specs.declared.leg.Leg.{Leg}
use Rattle.refusals.specs.declared.refusal.Refusal.TheVariants.{Refused}
use Rattle.bean_transactions.specs.Tried as spec
use Rattle.bean_transactions.proofs.LightFacts.{in_range}
use Rattle.bean_transactions.proofs.trial.balances.Goals as goal

are_wide : (legs : List Leg) (cause : WeighCause) → Judges legs (Err (Refused cause))
    → ¬ AreInRange legs
are_wide legs TooWide wide = wide

pub unreachable-requires : goal.unreachable-requires
unreachable-requires c =
    let legs = spec.booked_legs c.args.postings.now c.args.posted.now in
    let too_wide =
    are_wide legs c.in-Err-Refused-TooWide.field-0-0
    (subst (λ f. Judges legs (Err f)) c.in-Err-Refused-TooWide.field-0-is
    c.in-Err-Refused-TooWide.ensures) in
    let few : length legs ≤ 10 ^ 9 =
    let same = length-map c.args.posted.now (spec.booked_leg c.args.postings.now) in
    omega (arith, same, c.requires.few) in
    too_wide (in_range legs c.requires.light few)
