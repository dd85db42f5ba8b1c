-- The runs of a batch: how they begin, what their turns do, and what they answer.
use Rattle.std.specs.Prelude.{◌≡◌, ℕ, Result, Ok, Err, Option, Some, None}
use Rattle.posting_table.specs.Ledger.{Ledger}
use Rattle.query_answer.specs.declared.answer.Answer.{Answer}
use Rattle.query_batch.specs.declared.member.Member.{Member}
use Rattle.query_batch.specs.declared.member.Member.TheVariants as member
use Rattle.query_machine.specs.Run.{At, Ended, Failed, Place, rows_under}
use Rattle.query_machine.specs.RunOf.{IsRunOf}
use Rattle.query_machine.specs.Starts.{IsBegun, IsOutside}
use Rattle.query_machine.specs.Turns.{IsTurned}
use Rattle.query_machine.specs.declared.cause.RunCause.{RunCause}
use Rattle.query_machine.specs.declared.cause.RunCause.TheVariants.{OutsideBounds}
use Rattle.query_machine.specs.declared.turn.Turn.{Turn}
use Rattle.query_machine.specs.declared.turn.Turn.TheVariants as turn
use Rattle.refusals.specs.declared.refusal.Refusal.{Refusal}
use Rattle.refusals.specs.declared.refusal.Refusal.TheVariants.{OutOfMemory, Refused}
use Rattle.verified_program.specs.declared.checked.Checked.{Checked}

-- a run joins the batch exactly where the ledger is within its program's bounds
abbrev pub JoinsIn : Ledger → Checked → Member → Type 0
JoinsIn l c (member.Run r) = IsBegun c l r
JoinsIn l c member.OutsideBounds = IsOutside c l

abbrev pub IsTurnedMember : ℕ → Member → Member → Turn → Type 0
IsTurnedMember k (member.Run old) (member.Run new) told = IsTurned k old new told
IsTurnedMember k member.OutsideBounds member.OutsideBounds told = told ≡ turn.Failed
IsTurnedMember k old new told = ⊥

-- one that can go on has no answer yet, and one that lacked memory never will have
abbrev pub answer_by : Place → Result (Option Answer) (Refusal RunCause)
answer_by (At steps) = Ok None
answer_by (Ended answer) = Ok (Some answer)
answer_by Failed = Err OutOfMemory

abbrev pub answer_in : Member → Result (Option Answer) (Refusal RunCause)
answer_in (member.Run r) = answer_by r.place
answer_in member.OutsideBounds = Err (Refused OutsideBounds)

abbrev pub IsAnswerOf : Member → Answer → Type 0
IsAnswerOf (member.Run r) answer = IsRunOf r.parts (rows_under r) answer
IsAnswerOf member.OutsideBounds answer = ⊥
