-- From what holds of all directives to what holds of one: for callers.
use Rattle.std.proofs.Common.{◌≡◌, ℕ, zero, suc, ◌<◌, List, [], ◌∷◌, length, get_or, arith}
use Rattle.std.proofs.Common.{sym, subst}
use Rattle.std.specs.List.{AllByRecursion}

-- what holds of each item holds of the one at a place
pub at_place : {X : Type 0} (P : X → Type 0) (xs : List X) (i : ℕ) (d : X) → i < length xs
    → AllByRecursion P xs → P (get_or xs i d)
at_place P [] i d below all = absurd (omega arith)
at_place P (x ∷ xs) zero d below all = all.0
at_place P (x ∷ xs) (suc i) d below all = at_place P xs i d (omega arith) all.1

-- and of one that was found there, as code knows it
pub found_at : {X : Type 0} (P : X → Type 0) (xs : List X) (i : ℕ) (x : X) → i < length xs
    → x ≡ get_or xs i x → AllByRecursion P xs → P x
found_at P xs i x below at all = subst P (sym at) (at_place P xs i x below all)
