-- The lots of a label have all candidates of a selector that names it.
use Rattle.std.proofs.Common.{◌≡◌, ℕ, ℤ, Bool, true, false, cond, ◌&&◌, filter, List, [], ◌∷◌}
use Rattle.std.proofs.Common.{Option, Some, None, refl, ◌∙◌, ap}
use Rattle.std.specs.Int.RustNames.{unsigned_abs}
use Rattle.bean_inventories.specs.Days.{has_day}
use Rattle.bean_inventories.specs.Labelled.{is_labelled, is_lot_labelled}
use Rattle.bean_lots.specs.Inventory.{is_opposite}
use Rattle.bean_lots.specs.Lot.{same_text}
use Rattle.bean_lots.specs.declared.lot.Lot.{Lot}
use Rattle.bean_lots.specs.declared.lot.Position.{Position}
use Rattle.bean_reductions.specs.After.{after}
use Rattle.bean_reductions.specs.Candidate.{candidate_of, candidates, has_cost, has_label}
use Rattle.bean_reductions.specs.declared.reduction.Selector.{Selector}
use Rattle.bean_reductions.proofs.ThoseFacts.{of_those}

off : (currency cost day label same opposite : Bool) → label ≡ same → (currency && same) ≡ false
    → (currency && (cost && day && label) && opposite) ≡ false
off true true true label same opposite e t = ap (λ b. b && opposite) (e ∙ t)
off true true false label same opposite e t = refl
off true false day label same opposite e t = refl
off false cost day label same opposite e t = refl

-- another lot is no candidate
none_of : (s : Selector) (label : List ℕ) (want : ℤ) (currency : List ℕ) (lot : Option Lot) (n : ℤ)
    → s.label ≡ Some label → (same_text currency s.currency && is_labelled label lot) ≡ false
    → candidate_of s want currency lot n ≡ []
none_of s label want currency None n named other = refl
none_of s label want currency (Some lot) n named other =
    ap (λ b. cond b ((lot, unsigned_abs n) ∷ []) [])
    (off (same_text currency s.currency) (has_cost s.cost lot) (has_day s.day lot)
    (has_label s.label lot) (is_labelled label (Some lot)) (is_opposite want n)
    (ap (λ o. has_label o lot) named) other)

pub same_candidates : (s : Selector) (label : List ℕ) (want : ℤ) (es taken : List Position)
    → s.label ≡ Some label
    → candidates s want (after (filter (is_lot_labelled s.currency label) es) taken)
    ≡ candidates s want (after es taken)
same_candidates s label want es taken named =
    of_those s (is_lot_labelled s.currency label) want
    (λ e n other. none_of s label want e.key.currency e.key.lot n named other) es taken
