-- A list by its first member and the others.
use Rattle.std.proofs.Common.{◌≡◌, suc, ◌-◌, ◌≤◌, List, [], ◌∷◌, length, take, drop, arith, ap}
use Rattle.std.proofs.lemmas.List.{take_all}
use Rattle.std.specs.List.{slice_index_or}
use Rattle.query_rows.specs.declared.shape.Shape.{Shape}
use Rattle.bql_rules.specs.Rules.{listed, one_of}

pub first_and_others : (ss : List Shape) (d : Shape) → 1 ≤ length ss
    → one_of (slice_index_or ss 0 d) (take (length ss - 1) (drop 1 ss)) ≡ listed ss
first_and_others [] d h = absurd (omega arith)
first_and_others (s ∷ ss) d h =
    ap (one_of s) (take_all (suc (length ss) - 1) ss (omega arith))
