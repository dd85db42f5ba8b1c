-- The orders of lots and keys are total.
use Rattle.std.specs.Cmp.{IsTotalOrder}
use Rattle.std.specs.Cmp.Lexicographic.{options_total, nat_list_cmp_total}
use Rattle.std.proofs.lemmas.Cmp.{on_total, then_total, int_cmp_total}
use Rattle.bean_base.specs.Day.{number}
use Rattle.bean_lots.specs.Lot.{cost_order, lot_order, key_order}
use Rattle.bean_lots.specs.declared.lot.Cost.{Cost}
use Rattle.bean_lots.specs.declared.lot.Lot.{Lot}
use Rattle.bean_lots.specs.declared.lot.Key.{Key}

cost_total : IsTotalOrder cost_order
cost_total =
    then_total (on_total (λ (c : Cost). c.currency) nat_list_cmp_total)
    (on_total (λ (c : Cost). c.count) int_cmp_total)

lot_total : IsTotalOrder lot_order
lot_total =
    then_total (on_total (λ (l : Lot). l.cost) cost_total)
    (then_total (on_total (λ (l : Lot). number l.day) int_cmp_total)
    (on_total (λ (l : Lot). l.label) (options_total nat_list_cmp_total)))

pub key_total : IsTotalOrder key_order
key_total =
    then_total (on_total (λ (k : Key). k.currency) nat_list_cmp_total)
    (on_total (λ (k : Key). k.lot) (options_total lot_total))
