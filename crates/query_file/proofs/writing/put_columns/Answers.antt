use Rattle.std.proofs.Common.{◌+◌, length, arith}
use Rattle.std.proofs.lemmas.Grind.{common_steps}
use Rattle.query_code.specs.QueryFile.{columns}
use Rattle.query_file.proofs.writing.put_columns.Goals as goal

pub returns : goal.returns
unfolding columns
returns c =
    let order = c.put_order.ensures (length c.args.targets.now + c.args.hidden) in
    grind (arith, common_steps, order)
