-- The lots of a currency that have a label, among all that is held.
use Rattle.std.proofs.Common.{◌≡◌, ◌&&◌, ℕ, ℤ, Bool, true, false, filter, List, [], Option, Some, None}
use Rattle.std.proofs.Common.{refl, sym, ◌∙◌, ap, subst}
use Rattle.std.specs.Option.{option_eq}
use Rattle.std.specs.Ordering.{int_eq}
use Rattle.std.proofs.lemmas.Slice.Eq.{bytes_eq-Decides}
use Rattle.bean_base.specs.Day.{number}
use Rattle.bean_base.specs.declared.days.Day.{Day}
use Rattle.bean_inventories.specs.Kept.{key_of}
use Rattle.bean_inventories.specs.Labelled.{is_labelled, is_lot_labelled}
use Rattle.bean_inventories.specs.Labels.{IsAsNamed, IsNamed, IsNamedBy, lot_at}
use Rattle.bean_inventories.specs.Table.{AreNoted, IsNoted}
use Rattle.bean_inventories.specs.declared.inventory.labels.LabelLot.TheVariants.{At}
use Rattle.bean_inventories.specs.declared.inventory.labels.LabelLots.{LabelLots}
use Rattle.bean_inventories.specs.declared.inventory.table.LotTable.{LotTable}
use Rattle.bean_lots.specs.Lot.{same_cost, same_key, same_lot, same_text}
use Rattle.bean_lots.specs.Slots.{positions}
use Rattle.bean_lots.specs.declared.lot.Cost.{Cost}
use Rattle.bean_lots.specs.declared.lot.Key.{Key}
use Rattle.bean_lots.specs.declared.lot.Lot.{Lot}
use Rattle.bean_lots.specs.declared.lot.Position.{Position}
use Rattle.bean_inventories.proofs.AtCostFacts.{alike, no_part, nothing, text_equiv}

no_end : (a b : Bool) → (a && (b && false)) ≡ false
no_end true b = no_part b
no_end false b = refl

all_three : (a b : Bool) → (a && b) ≡ true → (a && (b && true)) ≡ true
all_three true true h = refl
all_three true false h = h
all_three false b h = h

-- a lot that has the label was bought as is told
same_as_named : (t : LabelLots) (label : List ℕ) (cost : Cost) (day : Day) (l : Lot)
    → lot_at t label ≡ Some (At cost day) → IsNamed t l
    → (same_cost cost l.cost
    && (int_eq (number day) (number l.day) && option_eq same_text (Some label) l.label))
    ≡ option_eq same_text (Some label) l.label
same_as_named t label cost day l at named = by l.label named
  where
    by : (o : Option (List ℕ)) → IsNamedBy t o l
        → (same_cost cost l.cost
        && (int_eq (number day) (number l.day) && option_eq same_text (Some label) o))
        ≡ option_eq same_text (Some label) o
    by None h = no_end (same_cost cost l.cost) (int_eq (number day) (number l.day))
    by (Some name) h = own (same_text label name) refl
      where
        own : (b : Bool) → same_text label name ≡ b
            → (same_cost cost l.cost && (int_eq (number day) (number l.day) && b)) ≡ b
        own false s = no_end (same_cost cost l.cost) (int_eq (number day) (number l.day))
        own true s =
            all_three (same_cost cost l.cost) (int_eq (number day) (number l.day))
            (subst (λ o. IsAsNamed o l)
            (ap (lot_at t) (sym ((bytes_eq-Decides label name).0 s)) ∙ at) h)

not_named : (t : LabelLots) (label : List ℕ) (l : Lot) → lot_at t label ≡ None → IsNamed t l
    → option_eq same_text (Some label) l.label ≡ false
not_named t label l none named = by l.label named
  where
    by : (o : Option (List ℕ)) → IsNamedBy t o l → option_eq same_text (Some label) o ≡ false
    by None h = refl
    by (Some name) h = own (same_text label name) refl
      where
        own : (b : Bool) → same_text label name ≡ b → b ≡ false
        own false s = refl
        own true s =
            absurd
            (subst (λ o. IsAsNamed o l)
            (ap (lot_at t) (sym ((bytes_eq-Decides label name).0 s)) ∙ none) h)

-- where it is told how the lots of a label were bought, those of a currency have one key
pub found_labelled : (t : LotTable) (currency label : List ℕ) (cost : Cost) (day : Day)
    → lot_at t.labels label ≡ Some (At cost day) → (es : List (Key × ℤ)) → AreNoted t es
    → filter (λ (e : Position). same_key (key_of currency cost day label) e.key) (positions es)
    ≡ filter (is_lot_labelled currency label) (positions es)
found_labelled t currency label cost day at =
    alike (λ k. IsNoted t k.lot) (λ e. same_key (key_of currency cost day label) e.key)
    (is_lot_labelled currency label) (λ k n told. agree k.currency k.lot told)
  where
    agree : (c : List ℕ) (lot : Option Lot) → IsNoted t lot
        → (same_text currency c
        && option_eq same_lot
        (Some (record { cost = cost; day = day; label = Some label })) lot)
        ≡ (same_text c currency && is_labelled label lot)
    agree c None told = ap (λ b. b && false) (text_equiv.symm currency c)
    agree c (Some l) told =
        λ i. text_equiv.symm currency c i && same_as_named t.labels label cost day l at told.1 i

-- where nothing is told of a label, no lot has it
pub found_unlabelled : (t : LotTable) (currency label : List ℕ)
    → lot_at t.labels label ≡ None → (es : List (Key × ℤ)) → AreNoted t es
    → filter (is_lot_labelled currency label) (positions es) ≡ []
found_unlabelled t currency label none es a =
    alike (λ k. IsNoted t k.lot) (is_lot_labelled currency label) (λ e. false)
    (λ k n told. agree k.currency k.lot told) es a
    ∙ nothing (positions es)
  where
    agree : (c : List ℕ) (lot : Option Lot) → IsNoted t lot
        → (same_text c currency && is_labelled label lot) ≡ false
    agree c None told = no_part (same_text c currency)
    agree c (Some l) told =
        ap (λ b. same_text c currency && b) (not_named t.labels label l none told.1)
        ∙ no_part (same_text c currency)
