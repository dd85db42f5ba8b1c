use Rattle.std.proofs.Common.{rules}
use Rattle.std.proofs.lemmas.List.Sorted.{answers_always}
use Rattle.std.proofs.lemmas.Result.{on_ok_weaker}
use Rattle.bean_parser.proofs.parse.sort_by_line.Goals as goal

pub returns : goal.returns
returns c = on_ok_weaker c.sort_by_key.result
    (λ sorted. record {
      sorted = sorted (λ f. f.place.line) (answers_always _ _ _ (λ f a r g h. search rules));
      stable = c.sort_by_key.ensures.stable (λ f. f.place.line)
          (answers_always _ _ _ (λ f a r g h. search rules));
    }) c.sort_by_key.ensures.sorted
