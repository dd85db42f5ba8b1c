use Rattle.std.proofs.Common.{rules}
use Rattle.std.proofs.lemmas.List.Sorted.{answers_always, ranks_by}
use Rattle.std.proofs.lemmas.Result.{on_ok_weaker}
use Rattle.theory.proofs.ArrangedFacts.{is_arranged}
use Rattle.theory.proofs.ArrangementFacts.{one_by_key}
use Rattle.bean_lots.specs.Lot.{key_order}
use Rattle.bean_lots.proofs.LotOrderFacts.{key_total}
use Rattle.query_holdings.specs.Placed.{is_before}
use Rattle.query_holdings.specs.declared.keys.Placed.{Placed}
use Rattle.query_holdings.proofs.keys.arrange.Goals as goal

pub returns : goal.returns
returns c =
    let ranks = ranks_by key_total (λ (p : Placed). p.key) in
    on_ok_weaker c.sort_by.result
    (λ sorted. one_by_key (λ (p : Placed). p.key) key_order key_total
    c.args.placed.now.items c.sort_by.new.self.items _
    (record {
      sorted = sorted is_before ranks (answers_always _ _ _ (λ f a r g h. search rules));
      stable = c.sort_by.ensures.stable is_before ranks
          (answers_always _ _ _ (λ f a r g h. search rules));
    }) (is_arranged is_before ranks c.args.placed.now.items))
    c.sort_by.ensures.sorted
