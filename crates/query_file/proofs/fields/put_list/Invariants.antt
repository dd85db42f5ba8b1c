use Rattle.std.proofs.Common.{◌≡◌, ◌++◌, length}
use Rattle.query_code.specs.ByteForm.{all_written, AllFit}
use Rattle.query_file.proofs.fields.put_list.Given as goal

abbrev pub invariant-loop-rest : goal.invariant-loop-rest
invariant-loop-rest g l =
    (l.out.items ++ all_written g.T.Field.form l.rest
    ≡ l.fn.out.items ++ all_written g.T.Field.form l.items)
    × AllFit g.T.Field.form l.rest

abbrev pub decreases-loop-rest : goal.decreases-loop-rest
decreases-loop-rest g l = length l.rest
