-- What is answered of a query: that it has a type, or the least cause for which it has none.
use Rattle.std.specs.Prelude.{◌≡◌, Some, Result, Ok, Err}
use Rattle.limits.specs.declared.bounds.Bounds.{Bounds}
use Rattle.bql_parser.specs.Answer.{query_of}
use Rattle.bql_parser.specs.declared.query.Query.{Query}
use Rattle.refusals.specs.declared.refusal.Refusal.{Refusal}
use Rattle.refusals.specs.declared.refusal.Refusal.TheVariants.{OutOfMemory, Refused}
use Rattle.bql_types.specs.Cause.{least_of}
use Rattle.bql_types.specs.Typing.{causes, IsTyped}
use Rattle.bql_types.specs.declared.cause.TypeCause.{TypeCause}
use Rattle.bql_types.specs.declared.typed.Typed.{Typed}

-- the query has a type where there is no cause for which it has none, and else the least is told
abbrev pub Answers : Bounds → Query → Result Typed (Refusal TypeCause) → Type 0
Answers b q (Ok t) = IsTyped b (query_of q) × (t.query.now ≡ q) × (t.bounds ≡ b)
Answers b q (Err OutOfMemory) = Unit {0}
Answers b q (Err (Refused c)) = least_of (causes b (query_of q)) ≡ Some c
