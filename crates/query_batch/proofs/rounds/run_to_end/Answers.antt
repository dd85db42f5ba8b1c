use Rattle.query_batch.proofs.RoundFacts.{all_brief, all_end}
use Rattle.query_batch.proofs.rounds.run_to_end.Goals as goal

pub returns : goal.returns
returns c =
    all_end c.args.ledger.now c.turns_add_up.ensures.end c.args.k c.most_steps-most.result
    c.args.programs.now c.in_ok-batch.batch c.round.new.batch c.go_on.new.batch c.requires
    (all_brief c.args.ledger.now c.len.result c.most_steps-most.result c.args.programs.now
    c.len.ensures.count c.most_steps-most.ensures)
    c.in_ok-batch.ensures c.round.ensures.turned c.go_on.ensures
