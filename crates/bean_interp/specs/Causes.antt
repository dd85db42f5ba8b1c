-- What users are told of legs that can't be weighed or completed.
use Rattle.std.specs.Prelude.{ℕ, List, codes, Option, None}
use Rattle.refusals.specs.declared.refusal.Refusal.{Refusal}
use Rattle.refusals.specs.declared.refusal.Refusal.TheVariants.{OutOfMemory, Refused}
use Rattle.bean_interp.specs.declared.cause.CompletionCause.{CompletionCause}
use Rattle.bean_interp.specs.declared.cause.CompletionCause.TheVariants as completion
use Rattle.bean_interp.specs.declared.cause.WeighCause.{WeighCause}
use Rattle.bean_interp.specs.declared.cause.WeighCause.TheVariants as weigh

abbrev pub weighing_code : WeighCause → List ℕ
weighing_code weigh.TooWide = codes "F17"

-- which line it stands on, the caller knows
abbrev pub weighing_place : WeighCause → Option ℕ
weighing_place cause = None

abbrev pub completion_code : CompletionCause → List ℕ
completion_code completion.LackTooMuch = codes "F11"
completion_code completion.TooWide = codes "F17"

abbrev pub completion_place : CompletionCause → Option ℕ
completion_place cause = None

-- what keeps legs from being weighed keeps them from being completed
abbrev pub of_weighing : Refusal WeighCause → Refusal CompletionCause
of_weighing OutOfMemory = OutOfMemory
of_weighing (Refused weigh.TooWide) = Refused completion.TooWide
