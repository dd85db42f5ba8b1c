-- What accounts hold after one more posting.
use Rattle.std.proofs.Common.{◌≡◌, ℕ, ◌+◌, ◌<◌, ◌&&◌, Bool, true, false, cond, List, [], ◌∷◌, ◌++◌, filter, fold}
use Rattle.std.proofs.Common.{length, get_or, take, add-one, refl, sym, ap, ◌∙◌, true≢false}
use Rattle.std.proofs.Math.Seq.{take-suc}
use Rattle.std.specs.Option.{is_some}
use Rattle.std.specs.Str.{bytes_eq}
use Rattle.std.proofs.lemmas.List.{append-nil}
use Rattle.std.proofs.lemmas.List.Elements.{filter-append}
use Rattle.bean_lots.specs.Inventory.{IsInventory, added}
use Rattle.bean_lots.specs.declared.lot.Position.{Position}
use Rattle.bean_lots.proofs.InventoryFacts.{kept}
use Rattle.bean_base.specs.Counts.{at_8}
use Rattle.bean_holdings.specs.Held.{key_of, is_on, sum_of, held, lots_in}
use Rattle.bean_holdings.specs.Holdings.{AreHeld, holding}
use Rattle.bean_holdings.specs.declared.holdings.Holdings.{Holdings}
use Rattle.bean_holdings.specs.declared.posted.Posted.{Posted}
use Rattle.bean_holdings.proofs.LotFacts.{lots_added}

sum_more : (ps : List Posted) (p : Posted) (es : List Position)
    → fold (λ es p. added es (key_of p) (at_8 p.units.number)) es (ps ++ p ∷ [])
    ≡ added (fold (λ es p. added es (key_of p) (at_8 p.units.number)) es ps) (key_of p)
    (at_8 p.units.number)
sum_more [] p es = refl
sum_more (q ∷ ps) p es = sum_more ps p (added es (key_of q) (at_8 q.units.number))

pub held_more : (a : List ℕ) (ps : List Posted) (p : Posted)
    → held a (ps ++ p ∷ [])
    ≡ cond (bytes_eq p.account a) (added (held a ps) (key_of p) (at_8 p.units.number)) (held a ps)
held_more a ps p = ap sum_of (filter-append (is_on a) ps (p ∷ [])) ∙ by (bytes_eq p.account a)
  where
    by : (b : Bool)
        → sum_of (filter (is_on a) ps ++ cond b (p ∷ []) [])
        ≡ cond b (added (held a ps) (key_of p) (at_8 p.units.number)) (held a ps)
    by true = sum_more (filter (is_on a) ps) p []
    by false = ap sum_of (append-nil (filter (is_on a) ps))

-- one more posting is added to an inventory for each account
pub one_more_in : (ps : List Posted) (p : Posted) (f g : List ℕ → List Position)
    → ((a : List ℕ) → f a ≡ held a ps)
    → ((a : List ℕ)
    → g a ≡ cond (bytes_eq p.account a) (added (f a) (key_of p) (at_8 p.units.number)) (f a))
    → (a : List ℕ) → g a ≡ held a (ps ++ p ∷ [])
one_more_in ps p f g held more a =
    more a
    ∙ ap (λ es. cond (bytes_eq p.account a) (added es (key_of p) (at_8 p.units.number)) es) (held a)
    ∙ sym (held_more a ps p)

-- an account's lots with that of one more posting, if it is the account's and has one
abbrev pub with_lot : Posted → List ℕ → List Position → List Position
with_lot p a es =
    cond (bytes_eq p.account a && is_some p.lot) (added es (key_of p) (at_8 p.units.number)) es

pub lots_more : (a : List ℕ) (ps : List Posted) (p : Posted)
    → lots_in (held a (ps ++ p ∷ [])) ≡ with_lot p a (lots_in (held a ps))
lots_more a ps p = ap lots_in (held_more a ps p) ∙ by (bytes_eq p.account a)
  where
    by : (b : Bool)
        → lots_in (cond b (added (held a ps) (key_of p) (at_8 p.units.number)) (held a ps))
        ≡ cond (b && is_some p.lot) (added (lots_in (held a ps)) (key_of p) (at_8 p.units.number))
        (lots_in (held a ps))
    by true = lots_added (held a ps) (key_of p) (at_8 p.units.number)
    by false = refl

-- of one more posting the lot is held
pub one_more : (ps : List Posted) (p : Posted) (g h : Holdings) → AreHeld ps g
    → ((a : List ℕ) → holding h a ≡ with_lot p a (holding g a)) → AreHeld (ps ++ p ∷ []) h
one_more ps p g h held more = record {
  each = λ a. more a ∙ ap (with_lot p a) (held.each a) ∙ sym (lots_more a ps p);
}

-- where it has none, the lots are what they were
pub no_lot_more : (p : Posted) (a : List ℕ) (es : List Position) → is_some p.lot ≡ false
    → es ≡ with_lot p a es
no_lot_more p a es none = by (bytes_eq p.account a) (is_some p.lot) none
  where
    by : (b d : Bool) → d ≡ false
        → es ≡ cond (b && d) (added es (key_of p) (at_8 p.units.number)) es
    by b true h = absurd (true≢false h)
    by true false h = refl
    by false false h = refl

-- and where it has one, they are added to
pub lot_more : (p : Posted) (a : List ℕ) (es : List Position) → is_some p.lot ≡ true
    → cond (bytes_eq p.account a) (added es (key_of p) (at_8 p.units.number)) es ≡ with_lot p a es
lot_more p a es some = by (bytes_eq p.account a) (is_some p.lot) some
  where
    by : (b d : Bool) → d ≡ true
        → cond b (added es (key_of p) (at_8 p.units.number)) es
        ≡ cond (b && d) (added es (key_of p) (at_8 p.units.number)) es
    by b false h = absurd (true≢false (sym h))
    by true true h = refl
    by false true h = refl

folded_inventory : (ps : List Posted) (es : List Position) → IsInventory es
    → IsInventory (fold (λ es p. added es (key_of p) (at_8 p.units.number)) es ps)
folded_inventory [] es i = i
folded_inventory (p ∷ ps) es i =
    folded_inventory ps (added es (key_of p) (at_8 p.units.number))
    (kept es (key_of p) (at_8 p.units.number) i)

-- what postings come to is an inventory
pub held_inventory : (a : List ℕ) (ps : List Posted) → IsInventory (held a ps)
held_inventory a ps = folded_inventory (filter (is_on a) ps) [] tt

pub taken_more : {X : Type 0} (xs : List X) (i : ℕ) (x : X) → i < length xs → x ≡ get_or xs i x
    → take (i + 1) xs ≡ take i xs ++ x ∷ []
taken_more xs i x h e = rw add-one (take-suc xs i x h ∙ ap (λ q. take i xs ++ q ∷ []) (sym e))
