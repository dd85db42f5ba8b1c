-- Why queries of the grammar are refused, and where.
use Rattle.std.specs.Prelude.{ℕ, List, codes, Option, Some, Result, Ok, Err, nat_lt, if◌then◌else◌}
use Rattle.bql_tree.specs.declared.cause.PartCause.{PartCause}
use Rattle.bql_tree.specs.declared.cause.PartCauseKind.{PartCauseKind}
use Rattle.bql_tree.specs.declared.cause.PartCauseKind.TheVariants.{UnknownName, OutsideProfile}

abbrev pub unknown_name : ℕ → PartCause
unknown_name place = record { place = place; kind = UnknownName }

abbrev pub outside_profile : ℕ → PartCause
outside_profile place = record { place = place; kind = OutsideProfile }

abbrev pub least_here : PartCauseKind → PartCause → PartCause → PartCause
least_here UnknownName a b = a
least_here OutsideProfile a b = b

-- the one at the lesser place, and of two at one place an unknown name
abbrev pub least : PartCause → PartCause → PartCause
least a b =
    if nat_lt a.place b.place then a
    else if nat_lt b.place a.place then b
    else least_here a.kind a b

-- both, or the least cause
abbrev pub both : {A B : Type 0} → Result A PartCause → Result B PartCause → Result (A × B) PartCause
both (Ok a) (Ok b) = Ok (a, b)
both (Ok a) (Err d) = Err d
both (Err c) (Ok b) = Err c
both (Err c) (Err d) = Err (least c d)

-- what users are told of it
abbrev pub code_of_kind : PartCauseKind → List ℕ
code_of_kind UnknownName = codes "Q2"
code_of_kind OutsideProfile = codes "Q3"

abbrev pub code_of : PartCause → List ℕ
code_of cause = code_of_kind cause.kind

abbrev pub place_of : PartCause → Option ℕ
place_of cause = Some cause.place
