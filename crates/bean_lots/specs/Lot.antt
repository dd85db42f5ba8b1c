-- When lots and keys are the same, and their order.
use Rattle.std.specs.Prelude.{ℕ, Bool, List, ◌&&◌, nat_eq}
use Rattle.std.specs.Ordering.{int_eq, int_cmp, nat_cmp, ordering_then}
use Rattle.std.specs.declared.cmp.Ordering.{Ordering}
use Rattle.std.specs.Option.{option_eq, option_cmp}
use Rattle.std.specs.Cmp.Lexicographic.{pointwise, slice_cmp}
use Rattle.bean_base.specs.Day.{number}
use Rattle.bean_lots.specs.declared.lot.Cost.{Cost}
use Rattle.bean_lots.specs.declared.lot.Lot.{Lot}
use Rattle.bean_lots.specs.declared.lot.Key.{Key}

abbrev pub same_text : List ℕ → List ℕ → Bool
same_text = pointwise nat_eq

abbrev pub same_cost : Cost → Cost → Bool
same_cost a b = same_text a.currency b.currency && int_eq a.count b.count

-- of one cost, one day and one label or none
abbrev pub same_lot : Lot → Lot → Bool
same_lot a b =
    same_cost a.cost b.cost
    && (int_eq (number a.day) (number b.day) && option_eq same_text a.label b.label)

abbrev pub same_key : Key → Key → Bool
same_key a b = same_text a.currency b.currency && option_eq same_lot a.lot b.lot

abbrev pub text_order : List ℕ → List ℕ → Ordering
text_order = slice_cmp nat_cmp

-- by currency, then by number
abbrev pub cost_order : Cost → Cost → Ordering
cost_order a b = ordering_then (text_order a.currency b.currency) (int_cmp a.count b.count)

-- by cost, then by day, then by label, none first
abbrev pub lot_order : Lot → Lot → Ordering
lot_order a b =
    ordering_then (cost_order a.cost b.cost)
    (ordering_then (int_cmp (number a.day) (number b.day)) (option_cmp text_order a.label b.label))

-- by currency, then by lot, none first
abbrev pub key_order : Key → Key → Ordering
key_order a b = ordering_then (text_order a.currency b.currency) (option_cmp lot_order a.lot b.lot)
