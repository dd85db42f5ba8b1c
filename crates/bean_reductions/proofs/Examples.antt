-- The definitions at worked values.
use Rattle.std.proofs.Common.{◌≡◌, ◌≤◌, pos, negsuc, [], ◌∷◌, Some, None, codes, refl, arith}
use Rattle.bean_lots.proofs.Examples.{both, first, second, usd}
use Rattle.bean_reductions.specs.Candidate.{candidates}
use Rattle.bean_reductions.specs.Filling.{filled}
use Rattle.bean_reductions.specs.Take.{signed_takes}
use Rattle.bean_reductions.specs.declared.reduction.Selector.{Selector}

few_120 : 120 ≤ 120
few_120 = omega arith

abbrev any : Selector
any = record { currency = codes "HOOL"; cost = None; day = None; label = None }

abbrev at_120 : Selector
at_120 = record { currency = codes "HOOL"; cost = Some (usd 120 few_120); day = None; label = None }

-- candidates
of_opposite_sign : candidates any (negsuc 11) both ≡ (first, 10) ∷ (second, 5) ∷ []
of_opposite_sign = refl

of_the_same_sign : candidates any (pos 12) both ≡ []
of_the_same_sign = refl

of_no_want : candidates any (pos 0) both ≡ []
of_no_want = refl

of_no_such_cost : candidates at_120 (negsuc 0) both ≡ []
of_no_such_cost = refl

-- takes
all_of_one_before_the_next :
    signed_takes (negsuc 11) (filled ((first, 10) ∷ (second, 5) ∷ []) 12)
    ≡ (first, negsuc 9, 8) ∷ (second, negsuc 1, 8) ∷ []
all_of_one_before_the_next = refl

of_short_positions :
    signed_takes (pos 12) (filled ((first, 10) ∷ (second, 5) ∷ []) 12)
    ≡ (first, pos 10, 8) ∷ (second, pos 2, 8) ∷ []
of_short_positions = refl
