-- What users are told of a refusal.
use Rattle.std.specs.Prelude.{ℕ, List, codes, Option, None}
use Rattle.refusals.specs.declared.refusal.Refusal.{Refusal}
use Rattle.refusals.specs.declared.refusal.Refusal.TheVariants.{OutOfMemory, Refused}

-- want of memory has a code of its own, and else the cause has one
abbrev pub code_by : {C : Type 0} → (C → List ℕ) → Refusal C → List ℕ
code_by of OutOfMemory = codes "M2"
code_by of (Refused cause) = of cause

abbrev pub place_by : {C : Type 0} → (C → Option ℕ) → Refusal C → Option ℕ
place_by of OutOfMemory = None
place_by of (Refused cause) = of cause
