use Rattle.std.proofs.Common.{arith, ap, length}
use Rattle.bean_replay.proofs.ShownFacts.{count_more}
use Rattle.bean_replay.specs.Draft as draft
use Rattle.bean_book.proofs.counts.RowCountBookings.keep.Goals as goal

pub returns : goal.returns
returns c = λ ds counted.
    let more = count_more ds (draft.Transaction c.args.kept.now) in
    let own = ap length c.as_slice.ensures in omega (arith, counted, more, own)
