use Rattle.query_code.specs.declared.instruction.Instruction.TheVariants.{Push}
use Rattle.query_code.specs.declared.instruction.Push.TheVariants.{True}
use Rattle.query_sections.proofs.StepFacts.{on_both, room_at, stands_at, within_at}
use Rattle.query_sections.specs.Reading.{acts_of}
use Rattle.query_sections.specs.Standing.{state_in}
use Rattle.std.proofs.lemmas.Result.{on_ok_weaker}
use Rattle.query_sections.proofs.running.step.Goals as goal

pub execute-requires-clause-room : goal.execute-requires-clause-room
execute-requires-clause-room c =
    room_at c.args.section.now.instructions.now
    (acts_of c.args.section.now.pool.now c.args.loads.now) c.args.frame.now.place
    (state_in c.args.frame.now) (Push True) c.args.frame.now.stack.room c.requires.inside
    c.requires.room

pub returns-clause-stands : goal.returns-clause-stands
returns-clause-stands c =
    on_both c.execute.result c.execute.ensures.state c.execute.ensures.place
    (λ state place. stands_at c.args.section.now.instructions.now
    (acts_of c.args.section.now.pool.now c.args.loads.now) c.args.frame.now.place
    (state_in c.args.frame.now) (Push True) c.args.frame.now.stack.room c.requires.inside
    c.requires.room c.execute.new.frame.place (state_in c.execute.new.frame) state place)

pub returns-clause-within : goal.returns-clause-within
returns-clause-within c =
    on_ok_weaker c.execute.result (λ place. within_at c.args.section.now.instructions.now
    (acts_of c.args.section.now.pool.now c.args.loads.now) c.args.frame.now.place
    (state_in c.args.frame.now) (Push True) c.args.frame.now.stack.room c.requires.inside
    c.requires.room c.execute.new.frame.place place) c.execute.ensures.place
