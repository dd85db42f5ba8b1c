-- What is left of the rest is what is left of all.
use Rattle.std.proofs.Common.{◌≡◌, ◌+ℤ◌, ◌^◌, List, [], ◌∷◌, ◌++◌, append_assoc, refl, sym, ◌∙◌, ap}
use Rattle.std.proofs.Common.{subst}
use Rattle.std.proofs.lemmas.List.{append-nil}
use Rattle.bean_inventories.specs.Days.{RiseInDays}
use Rattle.bean_lots.specs.Inventory.{count_of, held_as}
use Rattle.bean_lots.specs.declared.lot.Position.{Position}
use Rattle.bean_inventories.proofs.PartFacts.{middle}
use Rattle.bean_reductions.specs.After.{AreSmall, IsSmall, after}
use Rattle.bean_reductions.specs.Front.{IsFrontFor}
use Rattle.bean_reductions.specs.Rest.{AreGone, HasAllLeft}
use Rattle.bean_reductions.specs.declared.reduction.Method.{Method}
use Rattle.bean_reductions.specs.declared.reduction.front.Front.{Front}
use Rattle.bean_reductions.specs.declared.reduction.front.Front.TheVariants.{All, ToWant, PastWant}
use Rattle.bean_reductions.proofs.LastFacts.{rise_first, rise_second}

after_both : (xs ys taken : List Position)
    → after (xs ++ ys) taken ≡ after xs taken ++ after ys taken
after_both [] ys taken = refl
after_both (e ∷ xs) ys taken =
    let own = held_as e.key (e.count +ℤ count_of taken e.key) in
    ap (λ l. own ++ l) (after_both xs ys taken)
    ∙ sym (append_assoc own (after xs taken) (after ys taken))

gone : (es taken : List Position) → AreGone taken es → after es taken ≡ []
gone [] taken a = refl
gone (e ∷ es) taken a =
    ap (λ n. held_as e.key n ++ after es taken) a.0 ∙ gone es taken a.1

pub same_left : (taken rest held : List Position) → HasAllLeft taken rest held
    → after rest taken ≡ after held taken
same_left taken rest held h =
    sym (append-nil (after rest taken))
    ∙ ap (λ l. after rest taken ++ l) (sym (gone h.behind taken h.none_behind))
    ∙ sym (after_both rest h.behind taken)
    ∙ ap (λ l. l ++ after (rest ++ h.behind) taken) (sym (gone h.before taken h.none_before))
    ∙ sym (after_both h.before (rest ++ h.behind) taken)
    ∙ sym (ap (λ l. after l taken) h.all)

pub rise_rest : (taken rest held : List Position) → HasAllLeft taken rest held → RiseInDays held
    → RiseInDays rest
rise_rest taken rest held h r =
    rise_first rest h.behind
    (rise_second h.before (rest ++ h.behind) (subst RiseInDays h.all r))

-- what settles by all that is held what is taken, does so by the rest
pub front_of_rest : (front : Front) (m : Method) (taken rest held : List Position)
    → HasAllLeft taken rest held → IsFrontFor front m held → IsFrontFor front m rest
front_of_rest All m taken rest held h is = tt
front_of_rest ToWant m taken rest held h is = (is.0, rise_rest taken rest held h is.1)
front_of_rest PastWant m taken rest held h is = is

pub small_rest : (taken rest held : List Position) → HasAllLeft taken rest held
    → AreSmall (2 ^ 125) held → AreSmall (2 ^ 125) rest
small_rest taken rest held h s = middle (IsSmall (2 ^ 125)) h.before rest h.behind held h.all s
