-- The lots of a currency at a cost, among all that is held.
use Rattle.std.proofs.Common.{◌≡◌, ◌&&◌, ℕ, zero, suc, ℤ, pos, Bool, true, false, cond, filter}
use Rattle.std.proofs.Common.{List, [], ◌∷◌, ◌++◌, Option, Some, None, position, take, drop, refl, sym, ◌∙◌}
use Rattle.std.proofs.Common.{ap, subst}
use Rattle.std.specs.Cmp.{IsEquivalence, decided, signed_Decides}
use Rattle.std.specs.List.{AllByRecursion, IsDistinct}
use Rattle.std.specs.Map.{keys_of, lookup}
use Rattle.std.specs.Option.{option_eq}
use Rattle.std.specs.Ordering.{int_eq}
use Rattle.std.proofs.lemmas.Bool.{and_parts}
use Rattle.std.proofs.lemmas.Slice.Eq.{bytes_eq-Decides}
use Rattle.indexmap.proofs.MapLemmas.{Found-position, index-first}
use Rattle.bean_base.proofs.DayFacts.{same_day_Decides}
use Rattle.bean_base.specs.Day.{number}
use Rattle.bean_base.specs.declared.days.Day.{Day}
use Rattle.bean_inventories.specs.AtCost.{is_at, is_lot_at}
use Rattle.bean_inventories.specs.Costs.{IsAsTold, day_at}
use Rattle.bean_lots.specs.Inventory.{position_of}
use Rattle.bean_lots.specs.Lot.{same_cost, same_key, same_lot, same_text}
use Rattle.bean_lots.specs.Slots.{positions}
use Rattle.bean_inventories.specs.Kept.{key_on}
use Rattle.bean_inventories.specs.Table.{AreNoted, IsNoted}
use Rattle.bean_inventories.specs.declared.inventory.costs.CostDays.{CostDays}
use Rattle.bean_inventories.specs.declared.inventory.costs.LotDay.TheVariants.{On}
use Rattle.bean_inventories.specs.declared.inventory.table.LotTable.{LotTable}
use Rattle.bean_lots.specs.declared.lot.Cost.{Cost}
use Rattle.bean_lots.specs.declared.lot.Key.{Key}
use Rattle.bean_lots.specs.declared.lot.Lot.{Lot}
use Rattle.bean_lots.specs.declared.lot.Position.{Position}
use Rattle.bean_lots.proofs.LotFacts.{same_key_Decides}
use Rattle.bean_lots.proofs.SlotFacts.{is_none, none_there}

pub text_equiv : IsEquivalence same_text
text_equiv = decided same_text bytes_eq-Decides

-- nothing is held under a key without a slot
pub none_of : (k : Key) (es : List (Key × ℤ)) → lookup (same_key k) es ≡ None
    → filter (λ (e : Position). same_key k e.key) (positions es) ≡ []
none_of k [] h = refl
none_of k (e ∷ es) h = by (same_key k e.0) refl (int_eq e.1 (pos 0)) h (none_of k es)
  where
    own : Position → Bool
    own p = same_key k p.key

    by : (b : Bool) → same_key k e.0 ≡ b → (z : Bool)
        → cond b (Some e.1) (lookup (same_key k) es) ≡ None
        → (lookup (same_key k) es ≡ None → filter own (positions es) ≡ [])
        → filter own (cond z [] (position_of e.0 e.1 ∷ []) ++ positions es) ≡ []
    by true s z h rest = absurd (is_none e.1 h)
    by false s true h rest = rest h
    by false s false h rest =
        ap (λ b. cond b (position_of e.0 e.1 ∷ filter own (positions es))
        (filter own (positions es))) s
        ∙ rest h

-- what is held under a key stands in its slot
pub one_of : (k : Key) (es : List (Key × ℤ)) (i : ℕ) → position (same_key k) (keys_of es) ≡ Some i
    → IsDistinct same_key (keys_of es)
    → filter (λ (e : Position). same_key k e.key) (positions es)
    ≡ positions (take (suc zero) (drop i es))
unfolding IsDistinct
one_of k [] i p d = absurd (Found-position {X = ℤ} (same_key k) [] i p).first
one_of k (e ∷ es) zero p d = by (int_eq e.1 (pos 0))
  where
    own : Position → Bool
    own q = same_key k q.key

    same : same_key k e.0 ≡ true
    same = (Found-position (same_key k) (e ∷ es) zero p).first

    gone : filter own (positions es) ≡ []
    gone =
        none_of k es
        (none_there es k
        (subst (λ x. AllByRecursion {X = Key} (λ q. same_key x q ≡ false) (keys_of es))
        (sym ((same_key_Decides k e.0).0 same)) d.0))

    by : (z : Bool)
        → filter own (cond z [] (position_of e.0 e.1 ∷ []) ++ positions es)
        ≡ cond z [] (position_of e.0 e.1 ∷ []) ++ []
    by true = gone
    by false =
        ap (λ b. cond b (position_of e.0 e.1 ∷ filter own (positions es))
        (filter own (positions es))) same
        ∙ ap (λ l. position_of e.0 e.1 ∷ l) gone
one_of k (e ∷ es) (suc i) p d =
    by (int_eq e.1 (pos 0))
    (one_of k es i
    (index-first (same_key k) es i (Found-position (same_key k) (e ∷ es) (suc i) p).first.1) d.1)
  where
    own : Position → Bool
    own q = same_key k q.key

    other : same_key k e.0 ≡ false
    other = (Found-position (same_key k) (e ∷ es) (suc i) p).first.0

    by : (z : Bool) → filter own (positions es) ≡ positions (take (suc zero) (drop i es))
        → filter own (cond z [] (position_of e.0 e.1 ∷ []) ++ positions es)
        ≡ positions (take (suc zero) (drop i es))
    by true rest = rest
    by false rest =
        ap (λ b. cond b (position_of e.0 e.1 ∷ filter own (positions es))
        (filter own (positions es))) other
        ∙ rest

-- two tests that agree wherever something is known of a key find the same positions
pub alike : (P : Key → Type 0) (p q : Position → Bool)
    → ((k : Key) (n : ℤ) → P k → p (position_of k n) ≡ q (position_of k n))
    → (es : List (Key × ℤ)) → AllByRecursion {X = Key × ℤ} (λ e. P e.0) es
    → filter p (positions es) ≡ filter q (positions es)
alike P p q same [] a = refl
alike P p q same (e ∷ es) a = by (int_eq e.1 (pos 0)) (alike P p q same es a.1)
  where
    by : (z : Bool) → filter p (positions es) ≡ filter q (positions es)
        → filter p (cond z [] (position_of e.0 e.1 ∷ []) ++ positions es)
        ≡ filter q (cond z [] (position_of e.0 e.1 ∷ []) ++ positions es)
    by true rest = rest
    by false rest = λ i. cond (same e.0 e.1 a.0 i) (position_of e.0 e.1 ∷ rest i) (rest i)

pub nothing : (es : List Position) → filter (λ (e : Position). false) es ≡ []
nothing [] = refl
nothing (e ∷ es) = nothing es

pub no_part : (b : Bool) → (b && false) ≡ false
no_part true = refl
no_part false = refl

-- costs that are the same have one count
one_count : (a b : Cost) → same_cost a b ≡ true → a.count ≡ b.count
one_count a b s = (signed_Decides a.count b.count).0 (and_parts _ _ s).1

-- a lot at the cost is of the day that is told
same_as_told : (t : CostDays) (cost : Cost) (day : Day) (l : Lot)
    → day_at t cost.count ≡ Some (On day) → IsAsTold (day_at t l.cost.count) l
    → (same_cost cost l.cost
    && (int_eq (number day) (number l.day) && option_eq same_text None l.label))
    ≡ same_cost cost l.cost
same_as_told t cost day l on told = by (same_cost cost l.cost) refl
  where
    by : (b : Bool) → same_cost cost l.cost ≡ b
        → (b && (int_eq (number day) (number l.day) && option_eq same_text None l.label)) ≡ b
    by false s = refl
    by true s =
        let own : (l.day ≡ day) × (l.label ≡ None) =
        subst (λ o. IsAsTold o l)
        (ap (day_at t) (sym (one_count cost l.cost s)) ∙ on) told in
        (λ i. (same_day_Decides day l.day).1 (sym own.0) i
        && ap (option_eq same_text None) own.1 i)

not_told : (t : CostDays) (cost : Cost) (l : Lot) → day_at t cost.count ≡ None
    → IsAsTold (day_at t l.cost.count) l → same_cost cost l.cost ≡ false
not_told t cost l none told = by (same_cost cost l.cost) refl
  where
    by : (b : Bool) → same_cost cost l.cost ≡ b → b ≡ false
    by false s = refl
    by true s =
        absurd
        (subst (λ o. IsAsTold o l) (ap (day_at t) (sym (one_count cost l.cost s)) ∙ none) told)

-- where a day is told of a cost, its lots of a currency have one key
pub found_on : (t : LotTable) (currency : List ℕ) (cost : Cost) (day : Day)
    → day_at t.costs cost.count ≡ Some (On day) → (es : List (Key × ℤ)) → AreNoted t es
    → filter (λ (e : Position). same_key (key_on currency cost day) e.key) (positions es)
    ≡ filter (is_lot_at currency cost) (positions es)
found_on t currency cost day on =
    alike (λ k. IsNoted t k.lot) (λ e. same_key (key_on currency cost day) e.key)
    (is_lot_at currency cost) (λ k n told. agree k.currency k.lot told)
  where
    agree : (c : List ℕ) (lot : Option Lot) → IsNoted t lot
        → (same_text currency c
        && option_eq same_lot (Some (record { cost = cost; day = day; label = None })) lot)
        ≡ (same_text c currency && is_at cost lot)
    agree c None told = ap (λ b. b && false) (text_equiv.symm currency c)
    agree c (Some l) told =
        λ i. text_equiv.symm currency c i && same_as_told t.costs cost day l on told.0 i

-- where nothing is told of a cost, there are no lots at it
pub found_nowhere : (t : LotTable) (currency : List ℕ) (cost : Cost)
    → day_at t.costs cost.count ≡ None → (es : List (Key × ℤ)) → AreNoted t es
    → filter (is_lot_at currency cost) (positions es) ≡ []
found_nowhere t currency cost none es a =
    alike (λ k. IsNoted t k.lot) (is_lot_at currency cost) (λ e. false)
    (λ k n told. agree k.currency k.lot told) es a
    ∙ nothing (positions es)
  where
    agree : (c : List ℕ) (lot : Option Lot) → IsNoted t lot
        → (same_text c currency && is_at cost lot) ≡ false
    agree c None told = no_part (same_text c currency)
    agree c (Some l) told =
        ap (λ b. same_text c currency && b) (not_told t.costs cost l none told.0)
        ∙ no_part (same_text c currency)
