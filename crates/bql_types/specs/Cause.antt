-- Why a query has no type, and where; of several causes the least is told.
use Rattle.std.specs.Prelude.{ℕ, Bool, ◌==◌, ◌&&◌, ◌||◌, nat_lt, List, [], ◌∷◌, Option, Some, None, codes}
use Rattle.std.specs.Prelude.{if◌then◌else◌}
use Rattle.bql_types.specs.declared.cause.TypeCause.{TypeCause}
use Rattle.bql_types.specs.declared.cause.TypeCauseKind.{TypeCauseKind}
use Rattle.bql_types.specs.declared.cause.TypeCauseKind.TheVariants as kind

-- the number that users see behind the letter Y
abbrev pub number_of : TypeCauseKind → ℕ
number_of kind.KindClash = 1
number_of kind.AggregateMisplaced = 2
number_of kind.NotGrouped = 3
number_of kind.NotOrderable = 4
number_of kind.TooWide = 5
number_of kind.BalanceMisplaced = 6

-- what users are told of it
abbrev pub code_of_kind : TypeCauseKind → List ℕ
code_of_kind kind.KindClash = codes "Y1"
code_of_kind kind.AggregateMisplaced = codes "Y2"
code_of_kind kind.NotGrouped = codes "Y3"
code_of_kind kind.NotOrderable = codes "Y4"
code_of_kind kind.TooWide = codes "Y5"
code_of_kind kind.BalanceMisplaced = codes "Y6"

abbrev pub code_of : TypeCause → List ℕ
code_of cause = code_of_kind cause.kind

abbrev pub place_of : TypeCause → Option ℕ
place_of cause = Some cause.place

abbrev pub cause_at : TypeCauseKind → ℕ → TypeCause
cause_at kind place = record { place = place; kind = kind }

-- at a lesser place, or at the same with a lesser number
abbrev pub is_before : TypeCause → TypeCause → Bool
is_before a b =
    nat_lt a.place b.place
    || (a.place == b.place && nat_lt (number_of a.kind) (number_of b.kind))

abbrev pub sooner : Option TypeCause → TypeCause → Option TypeCause
sooner None c = Some c
sooner (Some a) c = if is_before c a then Some c else Some a

-- the least of what was told before and of some causes
abbrev pub told : Option TypeCause → List TypeCause → Option TypeCause
told found [] = found
told found (c ∷ cs) = told (sooner found c) cs

abbrev pub least_of : List TypeCause → Option TypeCause
least_of cs = told None cs

-- one cause, where something holds
abbrev pub where_true : Bool → TypeCause → List TypeCause
where_true is c = if is then c ∷ [] else []
