use Rattle.outputs.proofs.KeptFront.{keeps_front}
use Rattle.outputs.proofs.short_writer.keeps_a_front.Goals as goal

pub returns : goal.returns
returns c = keeps_front
