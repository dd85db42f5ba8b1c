-- Which sections a program can have, and why a query has no program.
use Rattle.std.specs.Prelude.{◌≡◌, ◌<◌, ◌≤◌, ◌⊎◌, Bool, true, false, ◌&&◌, nat_le, List, length}
use Rattle.std.specs.List.{list_any}
use Rattle.bql_code.specs.Code.{all_depth, all_size, depth, size}
use Rattle.bql_compiler.specs.declared.cause.CompileCause.{CompileCause}
use Rattle.bql_compiler.specs.declared.cause.CompileCause.TheVariants.{TooLong, NotBuilt, TooDeep}
use Rattle.bql_parser.specs.Asked.{Asked}
use Rattle.bql_plan.specs.Plan.{plan}
use Rattle.bql_compiler.specs.Program.{IsTooDeep, IsTooLong, Sections, code_over, parts_of}
use Rattle.bql_compiler.specs.Program.{pool_of, sections_of}
use Rattle.limits.specs.declared.bounds.Bounds.{Bounds}
use Rattle.limits.specs.declared.counts.TheConstants.{LONGEST_SECTION, MOST_VALUES}
use Rattle.query_code.specs.declared.program.Code.{Code}
use Rattle.query_code.specs.declared.program.Constant.{Constant}
use Rattle.query_code.specs.declared.program.Constant.TheVariants as constants
use Rattle.query_code.specs.declared.program.Parts.{Parts}
use Rattle.refusals.specs.declared.refusal.Refusal.{Refusal}
use Rattle.refusals.specs.declared.refusal.Refusal.TheVariants.{OutOfMemory, Refused}

-- each section has room for its code
abbrev pub are_short : Sections → Bool
are_short s =
    nat_le (size s.filter) LONGEST_SECTION
    && (nat_le (all_size s.row) LONGEST_SECTION && nat_le (all_size s.last) LONGEST_SECTION)

-- and the stack for its values
abbrev pub are_shallow : Sections → Bool
are_shallow s =
    nat_le (depth s.filter) MOST_VALUES
    && (nat_le (all_depth 0 s.row) MOST_VALUES && nat_le (all_depth 0 s.last) MOST_VALUES)

-- ---- patterns

abbrev pub is_pattern : Constant → Bool
is_pattern (constants.Pattern t) = true
is_pattern c = false

-- memory lacks, or a pattern isn't built
abbrev pub IsNotBuilt : Refusal CompileCause → Type 0
IsNotBuilt OutOfMemory = Unit {0}
IsNotBuilt (Refused cause) = cause ≡ NotBuilt

-- only where it is a pattern
abbrev pub IsNotBuiltBy : Refusal CompileCause → Constant → Type 0
IsNotBuiltBy OutOfMemory c = Unit {0}
IsNotBuiltBy (Refused cause) c = (cause ≡ NotBuilt) × (is_pattern c ≡ true)

-- only where there is a pattern
abbrev pub IsNotBuiltOf : Refusal CompileCause → List Constant → Type 0
IsNotBuiltOf OutOfMemory pool = Unit {0}
IsNotBuiltOf (Refused cause) pool = (cause ≡ NotBuilt) × (list_any is_pattern pool ≡ true)

-- ---- sections

-- each section has room, and their pool
pub record HaveRoom (s : Sections) : Type 0 where
  pub code : are_short s ≡ true
  pub pool : length (pool_of s) ≤ LONGEST_SECTION

-- memory lacks, or some section or the pool has none
abbrev pub IsWithoutRoom : Refusal CompileCause → Sections → Type 0
IsWithoutRoom OutOfMemory s = Unit {0}
IsWithoutRoom (Refused cause) s =
    (cause ≡ TooLong) × ((are_short s ≡ false) ⊎ (LONGEST_SECTION < length (pool_of s)))

-- a pattern of the pool isn't built, or the stack has no room
abbrev pub IsStoppedBy : CompileCause → List Constant → Sections → Type 0
IsStoppedBy TooLong pool s = ⊥
IsStoppedBy NotBuilt pool s = list_any is_pattern pool ≡ true
IsStoppedBy TooDeep pool s = are_shallow s ≡ false

abbrev pub IsStopped : Refusal CompileCause → List Constant → Sections → Type 0
IsStopped OutOfMemory pool s = Unit {0}
IsStopped (Refused cause) pool s = IsStoppedBy cause pool s

-- ---- causes

-- The least that holds: the program is too long, it has a pattern, or its stack is too deep.
abbrev pub IsCause : Bounds → Asked → CompileCause → Type 0
IsCause b q TooLong = IsTooLong (parts_of b q)
IsCause b q NotBuilt =
    ¬ IsTooLong (parts_of b q) × (list_any is_pattern (parts_of b q).code.pool ≡ true)
IsCause b q TooDeep = ¬ IsTooLong (parts_of b q) × IsTooDeep b q

-- want of memory says nothing of the query
abbrev pub IsRefusal : Bounds → Asked → Refusal CompileCause → Type 0
IsRefusal b q OutOfMemory = Unit {0}
IsRefusal b q (Refused cause) = IsCause b q cause

-- ---- what a query computes

abbrev pub sections_in : Bounds → Asked → Sections
sections_in b q = sections_of b q (plan q)

abbrev pub code_in : Bounds → Asked → Code
code_in b q = code_over b (plan q) (sections_in b q)

-- it has a program
abbrev pub IsWithin : Bounds → Asked → Type 0
IsWithin b q = ¬ IsTooLong (parts_of b q) × ¬ IsTooDeep b q

-- A query is compiled to these parts: those of the scheme, where these keep within the limits.
pub record IsCompiled (b : Bounds) (q : Asked) (p : Parts) : Type 0 where
  pub parts : p ≡ parts_of b q
  pub within : IsWithin b q
