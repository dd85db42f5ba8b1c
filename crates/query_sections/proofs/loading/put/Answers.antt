use Rattle.std.proofs.Common.{ap, sym, ◌∙◌, Some}
use Rattle.plain_machine.specs.Loading.{loaded, push_of}
use Rattle.query_sections.specs.Reading.{loads_of}
use Rattle.query_sections.proofs.OperationFacts.{loaded_is}
use Rattle.query_sections.proofs.StepFacts.{room_for_top, with_top_is}
use Rattle.query_sections.proofs.loading.put.Goals as goal

pub push-requires : goal.push-requires
push-requires c =
    let stack = c.args.stack.now in
    room_for_top stack.room (push_of c.args.pool.now (loads_of c.args.loads.now) c.args.op)
    stack.values c.requires.room

pub returns-clause-values : goal.returns-clause-values
returns-clause-values c =
    let stack = c.args.stack.now in
    let load = loaded c.args.pool.now (loads_of c.args.loads.now) c.args.op in
    with_top_is stack.room (push_of c.args.pool.now (loads_of c.args.loads.now) c.args.op)
    stack.values c.args.value c.requires.room
    (loaded_is stack.room load stack.values c.args.value c.requires.room c.requires.is)
    ∙ ap Some (sym c.push.ensures.values)
