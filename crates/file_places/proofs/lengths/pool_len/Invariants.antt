use Rattle.std.proofs.Common.{◌≡◌, ◌+◌, length}
use Rattle.query_code.specs.ByteForm.{all_written}
use Rattle.query_code.specs.QueryFile.{constant}
use Rattle.file_places.proofs.lengths.pool_len.Given as goal

abbrev pub invariant-loop-rest : goal.invariant-loop-rest
invariant-loop-rest l =
    l.len + length (all_written constant l.rest) ≡ length (all_written constant l.entries)

abbrev pub decreases-loop-rest : goal.decreases-loop-rest
decreases-loop-rest l = length l.rest
