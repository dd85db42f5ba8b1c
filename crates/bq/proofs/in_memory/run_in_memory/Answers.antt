use Rattle.std.proofs.Common.{map}
use Rattle.bq.proofs.InMemory.{ends}
use Rattle.bq.proofs.in_memory.run_in_memory.Goals as goal

pub returns : goal.returns
returns c = ends _ _ _ _ _ _ (map (λ w. w.now) c.args.words.now) _ c.run_words.ensures
