-- The lots at a cost have all candidates of a selector that names it.
use Rattle.std.proofs.Common.{◌≡◌, ℕ, ℤ, Bool, true, false, cond, ◌&&◌, filter, List, [], ◌∷◌}
use Rattle.std.proofs.Common.{Option, Some, None, refl, ◌∙◌, ap}
use Rattle.std.specs.Int.RustNames.{unsigned_abs}
use Rattle.bean_inventories.specs.AtCost.{is_at, is_lot_at}
use Rattle.bean_inventories.specs.Days.{has_day}
use Rattle.bean_lots.specs.Inventory.{is_opposite}
use Rattle.bean_lots.specs.Lot.{same_cost, same_text}
use Rattle.bean_lots.specs.declared.lot.Cost.{Cost}
use Rattle.bean_lots.specs.declared.lot.Lot.{Lot}
use Rattle.bean_lots.specs.declared.lot.Position.{Position}
use Rattle.bean_reductions.specs.After.{after}
use Rattle.bean_reductions.specs.Candidate.{candidate_of, candidates, has_cost, has_label}
use Rattle.bean_reductions.specs.declared.reduction.Selector.{Selector}
use Rattle.bean_reductions.proofs.ThoseFacts.{of_those}

off : (currency cost same day label opposite : Bool) → cost ≡ same → (currency && same) ≡ false
    → (currency && (cost && day && label) && opposite) ≡ false
off true cost same day label opposite e t = ap (λ b. (b && day && label) && opposite) (e ∙ t)
off false cost same day label opposite e t = refl

-- another lot is no candidate
none_of : (s : Selector) (cost : Cost) (want : ℤ) (currency : List ℕ) (lot : Option Lot) (n : ℤ)
    → s.cost ≡ Some cost → (same_text currency s.currency && is_at cost lot) ≡ false
    → candidate_of s want currency lot n ≡ []
none_of s cost want currency None n named other = refl
none_of s cost want currency (Some lot) n named other =
    ap (λ b. cond b ((lot, unsigned_abs n) ∷ []) [])
    (off (same_text currency s.currency) (has_cost s.cost lot) (same_cost cost lot.cost)
    (has_day s.day lot) (has_label s.label lot) (is_opposite want n)
    (ap (λ o. has_cost o lot) named) other)

pub same_candidates : (s : Selector) (cost : Cost) (want : ℤ) (es taken : List Position)
    → s.cost ≡ Some cost
    → candidates s want (after (filter (is_lot_at s.currency cost) es) taken)
    ≡ candidates s want (after es taken)
same_candidates s cost want es taken named =
    of_those s (is_lot_at s.currency cost) want
    (λ e n other. none_of s cost want e.key.currency e.key.lot n named other) es taken
