-- What the text of a query comes to: its file, or the cause for which it has none.
use Rattle.std.specs.Prelude.{◌≡◌, ℕ, ◌⊎◌, ⊤, Bool, true, false, List, Some, Result, Ok, Err, Vec}
use Rattle.std.specs.declared.alloc.Global.{Global}
use Rattle.bql_grammar.specs.Read.{Read}
use Rattle.bql_compiler.specs.Limits.{IsCause, IsWithin}
use Rattle.bql_compiler.specs.declared.cause.CompileCause.{CompileCause}
use Rattle.bql_compiler.specs.declared.cause.CompileCause.TheVariants.{NotBuilt}
use Rattle.bql_parser.specs.Asked.{Asked}
use Rattle.bql_parser.specs.Parse.{HasCause, IsQuery, StopsAt}
use Rattle.bql_parser.specs.Settled.{answer}
use Rattle.bql_parser.specs.declared.cause.QueryCause.{QueryCause}
use Rattle.bql_parser.specs.declared.cause.QueryCause.TheVariants as query
use Rattle.bql_compiler.specs.Carried.{Carries}
use Rattle.bql_compiler.specs.Program.{parts_of}
use Rattle.bql_types.specs.Cause.{least_of}
use Rattle.bql_types.specs.Typing.{IsTyped, causes}
use Rattle.bql_types.specs.declared.cause.TypeCause.{TypeCause}
use Rattle.limits.specs.declared.bounds.Bounds.{Bounds}
use Rattle.query_code.specs.QueryFile.{IsFile}
use Rattle.query_code.specs.declared.program.Parts.{Parts}
use Rattle.query_code.specs.declared.program.Program.{Program}
use Rattle.query_files.specs.declared.cause.TextCause.{TextCause}
use Rattle.query_files.specs.declared.cause.TextCause.TheVariants.{Query, Typing, Compile}
use Rattle.refusals.specs.declared.refusal.Refusal.{Refusal}
use Rattle.refusals.specs.declared.refusal.Refusal.TheVariants.{OutOfMemory, Refused}
use Rattle.well_shaped.specs.Program.{IsWellShaped}

-- ---- the query that a text is

-- the text is a query of the grammar, with this as its least cause; or it is outside, and stops there
abbrev pub IsUnread : List ℕ → QueryCause → Type 0
IsUnread text (query.Part c) = HasCause text c ⊎ StopsAt text (query.Part c)
IsUnread text (query.Syntax place) = StopsAt text (query.Syntax place)

-- it is a query without a cause, which asks this
abbrev pub IsRead : List ℕ → Asked → Type 0
IsRead text q = (r : Read) × IsQuery text r × (answer text r ≡ Ok q)

-- it asks this, which has a type by the bounds, and a program
pub record IsCompilable (b : Bounds) (text : List ℕ) (q : Asked) : Type 0 where
  pub read : IsRead text q
  pub typed : IsTyped b q
  pub within : IsWithin b q

-- why it has none: it is no query; or the query has no type; or, where it has one, no program
abbrev pub IsRefused : Bounds → List ℕ → TextCause → Type 0
IsRefused b text (Query c) = IsUnread text c
IsRefused b text (Typing c) = (q : Asked) × IsRead text q × (least_of (causes b q) ≡ Some c)
IsRefused b text (Compile c) = (q : Asked) × IsRead text q × IsTyped b q × IsCause b q c

-- ---- its program

-- A program of a query: that of the scheme, within the bounds by which the query has its type. It
-- is well shaped, and what comes out of it is what the query answers.
pub record IsProgramOf (b : Bounds) (q : Asked) (p : Parts) : Type 0 where
  pub parts : p ≡ parts_of b q
  pub bounds : p.bounds ≡ b
  pub shaped : ∥ IsWellShaped p ∥₁
  pub carries : Carries b p q

-- the bytes are its file
pub record IsFileOf (b : Bounds) (q : Asked) (file : List ℕ) : Type 0 where
  pub program : Parts
  pub is_program : IsProgramOf b q program
  pub is_file : IsFile file program

-- ---- what is answered

-- the program of the query that the text is, or why there is none; memory may lack at any time
abbrev pub HasProgram : Bounds → List ℕ → Result Program (Refusal TextCause) → Type 0
HasProgram b text (Ok p) = (q : Asked) × IsCompilable b text q × IsProgramOf b q p.parts
HasProgram b text (Err OutOfMemory) = ⊤
HasProgram b text (Err (Refused c)) = IsRefused b text c

-- its file
abbrev pub Compiles : Bounds → List ℕ → Result (Vec ℕ Global) (Refusal TextCause) → Type 0
Compiles b text (Ok file) = (q : Asked) × IsCompilable b text q × IsFileOf b q file.items
Compiles b text (Err OutOfMemory) = ⊤
Compiles b text (Err (Refused c)) = IsRefused b text c

-- ---- the refusals of the stages

abbrev pub unread : Refusal QueryCause → Refusal TextCause
unread (Refused cause) = Refused (Query cause)
unread OutOfMemory = OutOfMemory

abbrev pub untyped : Refusal TypeCause → Refusal TextCause
untyped (Refused cause) = Refused (Typing cause)
untyped OutOfMemory = OutOfMemory

abbrev pub uncompiled : Refusal CompileCause → Refusal TextCause
uncompiled (Refused cause) = Refused (Compile cause)
uncompiled OutOfMemory = OutOfMemory

-- ---- that one cause is told

-- whether a pattern is built isn't told, so where one stands this may hold or not
abbrev pub is_of_pattern : TextCause → Bool
is_of_pattern (Compile NotBuilt) = true
is_of_pattern cause = false

-- the same cause; but of a text that is no query it isn't told which of its causes is told
abbrev pub IsLike : TextCause → TextCause → Type 0
IsLike (Query a) (Query b) = ⊤
IsLike a b = a ≡ b

abbrev pub AreLike : TextCause → TextCause → Type 0
AreLike a b = IsLike a b ⊎ (is_of_pattern a ≡ true) ⊎ (is_of_pattern b ≡ true)
