use Rattle.std.proofs.Common.{◌≡◌, ◌&&◌, ◌==◌, cond, ap, ◌∙◌, unwrap_or, pos, arith, to_z, of_z}
use Rattle.std.specs.Int.{w128}
use Rattle.std.specs.Str.{bytes_eq}
use Rattle.std.proofs.lemmas.Int.{ints}
use Rattle.bean_pad.specs.Counts.{count_at}
use Rattle.bean_pad.proofs.SlotFacts.{put_or_before}
use Rattle.bean_pad.proofs.counts.Counts.begin.Goals as goal

pub returns-clause-begun : goal.returns-clause-begun
returns-clause-begun c = λ n d.
    let at = c.args.at in
    let is_there = (at.number == n) && bytes_eq at.currency d in
    let count : to_z w128 (of_z w128 c.args.count) ≡ c.args.count = omega (arith, ints) in
    ap (λ o. unwrap_or o (pos 0))
    (c.in_ok-insert.ensures.updates.0 (record { number = n; currency = d }))
    ∙ put_or_before is_there _ _
    ∙ ap (λ new. cond is_there new (count_at c.args.self.now.by_number.entries n d)) count
