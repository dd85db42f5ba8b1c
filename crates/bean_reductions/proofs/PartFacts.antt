-- A part that has all lots of a day has all candidates of that day.
use Rattle.std.proofs.Common.{◌≡◌, ℕ, ℤ, Bool, true, false, cond, ◌&&◌, List, [], ◌∷◌, ◌++◌}
use Rattle.std.proofs.Common.{Option, Some, None, ◌+ℤ◌, refl, sym, ◌∙◌, ap}
use Rattle.std.specs.Int.RustNames.{unsigned_abs}
use Rattle.std.proofs.lemmas.List.{append-nil}
use Rattle.bean_inventories.specs.Days.{has_day}
use Rattle.bean_lots.specs.Inventory.{count_of, is_opposite}
use Rattle.bean_lots.specs.Lot.{same_text}
use Rattle.bean_inventories.specs.Part.{AreOff, HasAllOf, IsOff}
use Rattle.bean_lots.specs.declared.lot.Lot.{Lot}
use Rattle.bean_lots.specs.declared.lot.Position.{Position}
use Rattle.bean_reductions.specs.After.{after}
use Rattle.bean_reductions.specs.Candidate.{agrees, candidate_of, candidates, has_cost, has_label}
use Rattle.bean_reductions.specs.declared.reduction.Selector.{Selector}
use Rattle.bean_reductions.proofs.AfterFacts.{front}

disagrees : (a b c : Bool) → b ≡ false → (a && b && c) ≡ false
disagrees true b c h = ap (λ b. b && c) h
disagrees false b c h = refl

none_of : (s : Selector) (want : ℤ) (currency : List ℕ) (lot : Option Lot) (n : ℤ)
    → IsOff s.day lot → candidate_of s want currency lot n ≡ []
none_of s want currency None n off = refl
none_of s want currency (Some lot) n off =
    ap (λ b. cond b ((lot, unsigned_abs n) ∷ []) [])
    (disagrees (same_text currency s.currency) (agrees s lot) (is_opposite want n)
    (disagrees (has_cost s.cost lot) (has_day s.day lot) (has_label s.label lot) off))

skipped : (s : Selector) (want : ℤ) (before rest taken : List Position) → AreOff s.day before
    → candidates s want (after (before ++ rest) taken) ≡ candidates s want (after rest taken)
skipped s want [] rest taken a = refl
skipped s want (e ∷ es) rest taken a =
    let n = e.count +ℤ count_of taken e.key in
    front s want e.key n (after (es ++ rest) taken)
    ∙ ap (λ l. l ++ candidates s want (after (es ++ rest) taken))
    (none_of s want e.key.currency e.key.lot n a.0)
    ∙ skipped s want es rest taken a.1

without : (s : Selector) (want : ℤ) (part behind taken : List Position) → AreOff s.day behind
    → candidates s want (after part taken) ≡ candidates s want (after (part ++ behind) taken)
without s want [] behind taken a =
    sym (ap (λ l. candidates s want (after l taken)) (sym (append-nil behind))
    ∙ skipped s want behind [] taken a)
without s want (e ∷ es) behind taken a =
    let n = e.count +ℤ count_of taken e.key in
    front s want e.key n (after es taken)
    ∙ ap (λ l. candidate_of s want e.key.currency e.key.lot n ++ l)
    (without s want es behind taken a)
    ∙ sym (front s want e.key n (after (es ++ behind) taken))

pub same_candidates : (s : Selector) (want : ℤ) (part es taken : List Position)
    → HasAllOf s.day part es
    → candidates s want (after part taken) ≡ candidates s want (after es taken)
same_candidates s want part es taken h =
    without s want part h.behind taken h.none_behind
    ∙ sym (skipped s want h.before (part ++ h.behind) taken h.none_before)
    ∙ sym (ap (λ l. candidates s want (after l taken)) h.all)
