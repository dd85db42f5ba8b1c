-- Causes that are answered, where less is asked of them.
use Rattle.std.proofs.Common.{List, Ok, Err, Result}
use Rattle.refusals.specs.declared.refusal.Refusal.{Refusal}
use Rattle.refusals.specs.declared.refusal.Refusal.TheVariants.{OutOfMemory, Refused}
use Rattle.query_code.specs.declared.instruction.Instruction.{Instruction}
use Rattle.query_code.specs.declared.program.Constant.{Constant}
use Rattle.well_shaped.specs.Sections.{Loads}
use Rattle.verify_programs.specs.Answers.{IfRefused, IsEntryCause, IsNamedCause, IsOther}
use Rattle.verify_programs.specs.Loading.{has_entry}
use Rattle.verify_programs.specs.declared.cause.CodeCause.{CodeCause}
use Rattle.verify_programs.specs.declared.cause.CodeCause.TheVariants.{Jump, Unknown, PoolEntry, Pattern}
use Rattle.verify_programs.specs.declared.cause.CodeCause.TheVariants.{Bounds, Unreachable}

pub weaker : {X C : Type 0} (r : Result X (Refusal C)) (P Q : C → Type 0) → ((c : C) → P c → Q c)
    → IfRefused r P → IfRefused r Q
weaker (Ok x) P Q h p = tt
weaker (Err OutOfMemory) P Q h p = tt
weaker (Err (Refused c)) P Q h p = h c p

pub by_other : (pool : List Constant) (l : Loads) (i : Instruction) (c : CodeCause) → IsOther c
    → IsNamedCause pool l c i
by_other pool l i Unknown h = absurd h
by_other pool l i PoolEntry h = absurd h
by_other pool l i Jump h = absurd h
by_other pool l i Unreachable h = absurd h
by_other pool l i Pattern h = absurd h
by_other pool l i Bounds h = absurd h
by_other pool l i c h = tt

pub by_entry : (pool : List Constant) (l : Loads) (i : Instruction) (c : CodeCause)
    → IsEntryCause (has_entry pool i) c → IsNamedCause pool l c i
by_entry pool l i Unknown h = absurd h
by_entry pool l i PoolEntry h = h
by_entry pool l i Jump h = absurd h
by_entry pool l i Unreachable h = absurd h
by_entry pool l i Pattern h = absurd h
by_entry pool l i Bounds h = absurd h
by_entry pool l i c h = tt
