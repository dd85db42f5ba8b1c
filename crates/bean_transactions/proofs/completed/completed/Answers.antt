use Rattle.std.proofs.Common.{arith, ap, sym, ◌∙◌, ◌++◌, ◌∷◌, []}
use Rattle.std.proofs.lemmas.List.{length-append}
use Rattle.bean_transactions.specs.Tried as spec
use Rattle.bean_transactions.proofs.CompletedFacts.{posts_more}
use Rattle.bean_transactions.proofs.FilledFacts.{posts_same}
use Rattle.bean_transactions.proofs.completed.completed.Goals as goal

pub loop-line-preserved : goal.loop-line-preserved
loop-line-preserved c =
    let fills = c.args.fills.now in
    let line = c.in-Some.line in
    let so_far = c.loop-line.yielded in
    let number = c.loop-line.invariant.number in
    let longer = length-append so_far (line ∷ []) in
    let cut = c.cut_behind.ensures in
    let here = c.cut_behind.result.0.now in
    record {
      number = omega (arith, number, longer);
      posted =
          c.in_ok-push_line.ensures
          ∙ ap (λ l. l ++ spec.posts_at here c.loop-line.number line) c.loop-line.invariant.posted
          ∙ ap (λ l. spec.completed fills so_far ++ l)
          (posts_same here fills c.loop-line.number line
          (cut.of_line ∙ c.loop-line.invariant.are c.loop-line.number (omega arith)))
          ∙ sym (posts_more fills 0 so_far line c.loop-line.number (omega (arith, number)));
      from = cut.are_from;
      are = λ k later. cut.of_later k (omega (arith, later))
          ∙ c.loop-line.invariant.are k (omega (arith, later));
    }
