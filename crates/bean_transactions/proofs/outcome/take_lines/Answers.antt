use Rattle.std.proofs.Common.{map, take, arith, sym, subst, ◌∷◌, [], ◌++◌}
use Rattle.bean_reductions.specs.Take.{take_counts}
use Rattle.bean_transactions.specs.Lined.{AreTakeLines}
use Rattle.bean_transactions.proofs.OutcomeFacts.{one_more_take, mapped_more}
use Rattle.bean_transactions.proofs.outcome.take_lines.Goals as goal

pub loop-take-preserved : goal.loop-take-preserved
loop-take-preserved c =
    let account = c.args.account.now in
    let currency = c.args.currency.now in
    let i = c.args.index in
    let takes = c.args.takes.now in
    let k = c.loop-take.take-index in
    let item = c.take-item.result in
    let old = c.loop-take.lines.items in
    let more = mapped_more take_counts takes k item (omega arith) c.take-item.is in
    subst (λ ts. AreTakeLines account currency i ts c.push.new.self.items) (sym more)
    (subst
    (AreTakeLines account currency i (map take_counts (take k takes) ++ take_counts item ∷ []))
    (sym c.in_ok-push.ensures.items)
    (one_more_take account currency i (map take_counts (take k takes)) old (take_counts item)
    _ c.loop-take.invariant c.in_ok-take_line.ensures))
