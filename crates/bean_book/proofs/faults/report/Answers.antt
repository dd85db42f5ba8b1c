use Rattle.std.proofs.Common.{◌∙◌, rules}
use Rattle.std.proofs.lemmas.List.Filters.{dedup_is}
use Rattle.std.proofs.lemmas.List.Sorted.{answers_always}
use Rattle.theory.proofs.OnceFacts.{dedup_is_once}
use Rattle.bean_book.specs.Reported.{fault_cmp, key_of}
use Rattle.bean_book.proofs.FaultOrder.{fault_told, fault_total, ties}
use Rattle.bean_book.proofs.faults.report.Goals as goal

pub returns : goal.returns
returns c =
    let sorted = c.sort_by_key.new.self.items in
    let in_order =
    c.in_ok-sort_by_key.ensures.sorted key_of (answers_always _ _ _ (λ f a r g h. search rules)) in
    dedup_is _ sorted c.dedup.new.self.items c.dedup.ensures.filtered
    ∙ dedup_is_once fault_cmp fault_total fault_told _ ties c.args.faults.now.items sorted
    c.in_ok-sort_by_key.ensures.permutation in_order
