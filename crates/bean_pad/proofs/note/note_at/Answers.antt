use Rattle.bean_pad.proofs.NotedFacts.{noted_is}
use Rattle.bean_pad.proofs.note.note_at.Goals as goal

pub returns-clause-noted : goal.returns-clause-noted
returns-clause-noted c =
    noted_is c.args.pads.now.items c.args.pad c.args.note c.index_mut.result.now _ c.requires
    c.index_mut.ensures.value c.in_ok-push.ensures
