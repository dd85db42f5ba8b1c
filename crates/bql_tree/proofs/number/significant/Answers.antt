use Rattle.std.proofs.Common.{ap, ◌∙◌, ◌+◌, drop}
use Rattle.std.specs.List.{prefix_len}
use Rattle.byte_runs.proofs.RunFacts.{front_boundary}
use Rattle.bql_tree.specs.Number.{is_zero}
use Rattle.bql_tree.proofs.NumberFacts.{zero_is_ascii}
use Rattle.bql_tree.proofs.number.significant.Goals as goal

pub split_at-requires : goal.split_at-requires
split_at-requires c = front_boundary is_zero zero_is_ascii c.args.number.now _ c.utf8.number
    (c.end_of_run.ensures.run ∙ ap (λ bs. 0 + prefix_len is_zero (drop 0 bs))
    c.as_bytes.ensures.value)
