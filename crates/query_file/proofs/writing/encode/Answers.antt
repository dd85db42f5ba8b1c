use Rattle.std.proofs.Math.Logic.{∥∥₁_elim}
use Rattle.query_code.proofs.FitsFacts.{prop_file}
use Rattle.query_file.proofs.writing.encode.Goals as goal

pub put_parts-requires : goal.put_parts-requires
put_parts-requires c =
    ∥∥₁_elim c.args.program.now.has_file (prop_file c.args.program.now.parts) (λ fits. fits)
