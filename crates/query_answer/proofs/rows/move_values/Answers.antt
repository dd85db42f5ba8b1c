use Rattle.std.proofs.Common.{◌++◌, ◌∷◌, [], ap, arith, sym, ◌∙◌}
use Rattle.std.proofs.lemmas.List.{length-set}
use Rattle.query_answer.proofs.MovedFacts.{left_more, moved_more}
use Rattle.query_answer.proofs.rows.move_values.Goals as goal

pub loop-i-preserved : goal.loop-i-preserved
loop-i-preserved c =
    let was = c.args.from.now in
    let now = c.loop-i.from in
    let i = c.loop-i.i in
    let x = c.index-from-i.result in
    let count = c.loop-i.invariant.count in
    let test = c.loop-i-test.true in
    record {
      moved = moved_more was now i x c.replace.new.dest count (omega (arith, count, test))
          c.loop-i.invariant.left c.args.to.now.items c.loop-i.to.items c.push.new.self.items
          c.index-from-i.is c.loop-i.invariant.moved
          (c.in_ok-push.ensures.items ∙ ap (λ v. c.loop-i.to.items ++ v ∷ []) (c.replace.ensures.value ∙ sym c.index-from-i.is));
      left = left_more was now i x c.replace.new.dest count (omega (arith, count, test))
          c.loop-i.invariant.left;
      count = length-set now i c.replace.new.dest ∙ count;
    }
