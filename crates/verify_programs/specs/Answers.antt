-- What is answered where a rule gives something, and where it gives nothing.
use Rattle.std.specs.Prelude.{◌≡◌, Bool, false, List, Option, Some, None, Result, Ok, Err}
use Rattle.refusals.specs.declared.refusal.Refusal.{Refusal}
use Rattle.refusals.specs.declared.refusal.Refusal.TheVariants.{OutOfMemory, Refused}
use Rattle.query_values.specs.declared.value.Value.{Value}
use Rattle.query_rows.specs.Rules.{Ruled, among}
use Rattle.query_rows.specs.declared.shape.Shape.{Shape}
use Rattle.query_code.specs.declared.instruction.Instruction.{Instruction}
use Rattle.query_code.specs.declared.program.Constant.{Constant}
use Rattle.plain_machine.specs.SectionRun.{State}
use Rattle.well_shaped.specs.Sections.{Loads}
use Rattle.verify_programs.specs.Loading.{knows, has_entry}
use Rattle.verify_programs.specs.declared.cause.CodeCause.{CodeCause}
use Rattle.verify_programs.specs.declared.cause.CodeCause.TheVariants.{Jump, Unknown, PoolEntry, Pattern}
use Rattle.verify_programs.specs.declared.cause.CodeCause.TheVariants.{Bounds, Unreachable}

-- the shape that a rule gives; none where a cause is answered
abbrev pub Gives : Result Shape (Refusal CodeCause) → Option Shape → Type 0
Gives (Ok s) rule = rule ≡ Some s
Gives (Err OutOfMemory) rule = Unit {0}
Gives (Err (Refused c)) rule = rule ≡ None

-- what is made of a state shape stands in its place; nothing is where a cause is answered
abbrev pub Becomes : {U : Type 0} → Result U (Refusal CodeCause) → Option (State Shape) → State Shape
    → Type 0
Becomes (Ok u) rule new = rule ≡ Some new
Becomes (Err OutOfMemory) rule new = Unit {0}
Becomes (Err (Refused c)) rule new = rule ≡ None

-- what holds of a cause that is answered
abbrev pub IfRefused : {X C : Type 0} → Result X (Refusal C) → (C → Type 0) → Type 0
IfRefused (Ok x) holds = Unit {0}
IfRefused (Err OutOfMemory) holds = Unit {0}
IfRefused (Err (Refused c)) holds = holds c

-- no cause by what an instruction names, by where it leads or by what leads there, nor one of the
-- header or of a pattern
abbrev pub IsOther : CodeCause → Type 0
IsOther Unknown = ⊥
IsOther PoolEntry = ⊥
IsOther Jump = ⊥
IsOther Unreachable = ⊥
IsOther Pattern = ⊥
IsOther Bounds = ⊥
IsOther c = Unit {0}

-- where the cause is an entry of the pool, it isn't there
abbrev pub IsEntryCause : Bool → CodeCause → Type 0
IsEntryCause has Unknown = ⊥
IsEntryCause has PoolEntry = has ≡ false
IsEntryCause has Jump = ⊥
IsEntryCause has Unreachable = ⊥
IsEntryCause has Pattern = ⊥
IsEntryCause has Bounds = ⊥
IsEntryCause has c = Unit {0}

-- where the cause is what is loaded, it isn't known
abbrev pub IsUnknownCause : Bool → CodeCause → Type 0
IsUnknownCause is_known Unknown = is_known ≡ false
IsUnknownCause is_known PoolEntry = ⊥
IsUnknownCause is_known Jump = ⊥
IsUnknownCause is_known Unreachable = ⊥
IsUnknownCause is_known Pattern = ⊥
IsUnknownCause is_known Bounds = ⊥
IsUnknownCause is_known c = Unit {0}

-- what is answered of a list's members
abbrev pub Listed : Ruled → Option (List Value) → Shape → Type 0
Listed ruled None s = Unit {0}
Listed ruled (Some ys) s = ruled ≡ among ys s

-- What an instruction names isn't there, where that is the cause; where it leads isn't looked at.
abbrev pub IsNamedCause : List Constant → Loads → CodeCause → Instruction → Type 0
IsNamedCause pool l Unknown i = knows l i ≡ false
IsNamedCause pool l PoolEntry i = has_entry pool i ≡ false
IsNamedCause pool l Jump i = ⊥
IsNamedCause pool l Unreachable i = ⊥
IsNamedCause pool l Pattern i = ⊥
IsNamedCause pool l Bounds i = ⊥
IsNamedCause pool l c i = Unit {0}
