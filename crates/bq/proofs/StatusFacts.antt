-- Which statuses tell what.
use Rattle.std.proofs.Common.{◌≡◌, ◌<◌, ◌≤◌, Ok, Err, refl, ap, arith}
use Rattle.bean_load.specs.declared.cause.LoadCause.TheVariants as loads
use Rattle.endings.specs.Refusal.{status_by, status_of}
use Rattle.bq.specs.Runs.{StatusesTell}
use Rattle.endings.specs.Verdict as verdicts
use Rattle.endings.specs.declared.refusal.Cause.{Cause}
use Rattle.endings.specs.declared.refusal.Cause.TheVariants as cause
use Rattle.endings.specs.declared.refusal.Refusal.{Refusal}
use Rattle.endings.specs.declared.refusal.Refusal.TheVariants.{OutOfMemory, Refused, NotWritten, NotKept}
use Rattle.endings.specs.declared.verdict.Verdict.{Verdict}
use Rattle.endings.specs.declared.verdict.Verdict.TheVariants as verdict

-- that of a refusal is 2 or more
of_cause : (c : Cause) → 2 ≤ status_by c
of_cause cause.Words = omega (arith)
of_cause (cause.Load loads.Unreadable) = omega (arith)
of_cause (cause.Load loads.TooLarge) = omega (arith)
of_cause (cause.Load loads.NotUtf8) = omega (arith)
of_cause (cause.Text c) = omega (arith)
of_cause (cause.File c) = omega (arith)
of_cause cause.TooManyPostings = omega (arith)
of_cause cause.OutsideBounds = omega (arith)

of_refusal : (r : Refusal) → 2 ≤ status_of r
of_refusal (Refused c) = of_cause c
of_refusal (NotWritten n) = omega (arith)
of_refusal NotKept = omega (arith)
of_refusal OutOfMemory = omega (arith)

-- one below 2 is that of one answer
of_verdict : (v w : Verdict) → verdicts.status_of v < 2
    → verdicts.status_of w ≡ verdicts.status_of v → w ≡ v
of_verdict verdict.Fine verdict.Fine low e = refl
of_verdict verdict.Fine verdict.Faulty low e = absurd (omega (arith, e))
of_verdict verdict.Fine verdict.OutsideBounds low e = absurd (omega (arith, e))
of_verdict verdict.Fine verdict.OutOfMemory low e = absurd (omega (arith, e))
of_verdict verdict.Faulty verdict.Fine low e = absurd (omega (arith, e))
of_verdict verdict.Faulty verdict.Faulty low e = refl
of_verdict verdict.Faulty verdict.OutsideBounds low e = absurd (omega (arith, e))
of_verdict verdict.Faulty verdict.OutOfMemory low e = absurd (omega (arith, e))
of_verdict verdict.OutsideBounds w low e = absurd (omega (arith, low))
of_verdict verdict.OutOfMemory w low e = absurd (omega (arith, low))

pub statuses_tell : StatusesTell
statuses_tell v (Ok w) low e = ap Ok (of_verdict v w low e)
statuses_tell v (Err r) low e =
    let more = of_refusal r in absurd (omega (arith, low, e, more))
