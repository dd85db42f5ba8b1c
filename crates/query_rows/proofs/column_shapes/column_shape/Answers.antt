use Rattle.std.proofs.Common.{arith}
use Rattle.query_rows.proofs.BoundFacts.{few_postings, sum_fits}
use Rattle.query_rows.proofs.column_shapes.column_shape.Goals as goal

pub overflow_mul-result-in-Balance : goal.overflow_mul-result-in-Balance
overflow_mul-result-in-Balance c =
    let fits =
    sum_fits c.args.bounds.now.postings c.args.bounds.now.value_digits
    (few_postings c.args.bounds.now c.requires)
    c.requires.value in
    let most = c.most_of-value.ensures in
    rw most (omega (arith, fits))
