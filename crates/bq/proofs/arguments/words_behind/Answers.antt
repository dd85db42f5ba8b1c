use Rattle.std.proofs.Common.{ap, ◌∙◌}
use Rattle.std.specs.Vec.Iter.{into_iter_items, into_iter_len}
use Rattle.std.proofs.lemmas.Iterator.{items_from_collect}
use Rattle.std.proofs.lemmas.Iterator.Adapters.{YieldsList-from_skip, YieldsList-from_vec}
use Rattle.bq.proofs.arguments.words_behind.Goals as goal

pub returns : goal.returns
returns c =
    let source = c.skip.ensures.source in
    items_from_collect _ c.collect.ensures.ran
    (YieldsList-from_skip 1
    (YieldsList-from_vec (into_iter_items c.args.args) (ap into_iter_items source)
    (ap into_iter_len source ∙ c.args.args.rest.ok.0)) c.skip.ensures.count)
