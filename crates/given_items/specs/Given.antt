-- What is given at a place of a text.
use Rattle.std.specs.Prelude.{ℕ, ◌&&◌, Bool, List, [], ◌∷◌, nat_le, nat_lt, if◌then◌else◌}
use Rattle.given_items.specs.declared.given.GivenItem.{GivenItem}

abbrev pub is_given_at : {T : Type 0} → ℕ → GivenItem T → Bool
is_given_at place g = nat_le g.from place && nat_lt place g.to

-- of some items those that are given at a place
abbrev pub given_at : {T : Type 0} → ℕ → List (GivenItem T) → List T
given_at place [] = []
given_at place (g ∷ gs) =
    if is_given_at place g then g.item ∷ given_at place gs else given_at place gs
