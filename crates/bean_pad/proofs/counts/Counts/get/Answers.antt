use Rattle.std.proofs.Common.{◌≡◌, ◌∙◌, sym, arith, to_z, of_z}
use Rattle.std.specs.Int.{w128}
use Rattle.std.proofs.lemmas.Int.{ints}
use Rattle.bean_pad.proofs.SlotFacts.{count_there}
use Rattle.bean_pad.proofs.counts.Counts.get.Goals as goal

pub returns-in-Some : goal.returns-in-Some
returns-in-Some c =
    let count : to_z w128 (of_z w128 c.index.result.now) ≡ c.index.result.now =
    omega (arith, ints) in
    count
    ∙ sym (count_there c.args.self.now.by_number.entries c.args.number _ _ c.in-Some.place _
    c.lend.ensures c.in-Some.ensures.some c.index.ensures)
