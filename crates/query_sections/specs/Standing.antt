-- Where a frame stands in its section.
use Rattle.plain_machine.specs.SectionRun.{State, Outcome, Standing}
use Rattle.query_sections.specs.declared.frame.Frame.{Frame}
use Rattle.query_values.specs.declared.value.Value.{Value}

abbrev pub state_in : Frame → State Value
state_in f = record { stack = f.stack.values; slots = f.slots }

abbrev pub standing : Frame → Outcome
standing f = Standing f.place (state_in f)
