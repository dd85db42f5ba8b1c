-- Worked values of the definitions.
use Rattle.std.proofs.Common.{◌≡◌, ◌≤◌, ◌<◌, ◌+◌, ◌/◌, ℕ, zero, suc, false, [], ◌∷◌, get_or, filter}
use Rattle.std.proofs.Common.{refl, arith}
use Rattle.std.specs.Prelude.{codes, nat_eq}
use Rattle.std.specs.Ordering.{nat_cmp}
use Rattle.std.specs.List.Sorted.{IsSortedBy, ties}
use Rattle.theory.specs.Form.{snoc, steps}
use Rattle.theory.specs.Arrangement.{by_key, against_key}
use Rattle.theory.specs.Cut.{cut_before}
use Rattle.theory.specs.Joined.{joined}

-- a list is cut before each 0
cut_three :
    cut_before (nat_eq 0) (7 ∷ 8 ∷ 0 ∷ 0 ∷ 9 ∷ []) ≡ (7 ∷ 8 ∷ []) ∷ (0 ∷ []) ∷ (0 ∷ 9 ∷ []) ∷ []
cut_three = refl

cut_nothing : cut_before (nat_eq 0) [] ≡ []
cut_nothing = refl

joined_three : joined (codes ", ") (codes "ab" ∷ codes "" ∷ codes "c" ∷ []) ≡ codes "ab, , c"
joined_three = refl

joined_one : joined (codes ", ") (codes "ab" ∷ []) ≡ codes "ab"
joined_one = refl

in_a_row : steps {V = ℕ} snoc (1 ∷ []) (2 ∷ 3 ∷ []) ≡ 1 ∷ 2 ∷ 3 ∷ []
in_a_row = refl

-- by tens, and by tens from the highest down
abbrev tens : ℕ → ℕ
tens n = n / 10

rising : (k d : ℕ) → 0 ≤ k → k + 1 < 4
    → by_key tens nat_cmp (get_or (7 ∷ 3 ∷ 19 ∷ 12 ∷ []) (k + 1) d)
    (get_or (7 ∷ 3 ∷ 19 ∷ 12 ∷ []) k d) ≡ false
rising zero d low below = refl
rising (suc zero) d low below = refl
rising (suc (suc zero)) d low below = refl
rising (suc (suc (suc k))) d low below = absurd (omega arith)

of_tens : IsSortedBy (by_key tens nat_cmp) (7 ∷ 3 ∷ 19 ∷ 12 ∷ [])
of_tens = rising

their_order :
    filter (ties (by_key tens nat_cmp) 15) (7 ∷ 3 ∷ 19 ∷ 12 ∷ [])
    ≡ filter (ties (by_key tens nat_cmp) 15) (19 ∷ 7 ∷ 12 ∷ 3 ∷ [])
their_order = refl

from_the_highest :
    filter (ties (against_key tens nat_cmp) 5) (19 ∷ 12 ∷ 7 ∷ 3 ∷ [])
    ≡ filter (ties (against_key tens nat_cmp) 5) (19 ∷ 7 ∷ 12 ∷ 3 ∷ [])
from_the_highest = refl
