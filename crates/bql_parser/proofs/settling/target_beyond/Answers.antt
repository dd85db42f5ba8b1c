use Rattle.bql_grammar.specs.Read.{target_of}
use Rattle.bql_parser.specs.Settled.{target_start}
use Rattle.bql_parser.proofs.SettlingFacts.{viewed_at, none_at}
use Rattle.bql_parser.proofs.settling.target_beyond.Goals as goal

pub returns-in-Some : goal.returns-in-Some
returns-in-Some c =
    viewed_at target_of target_start c.args.reads.now 255 c.in-Some.read c.in-Some.ensures.lookup

pub returns-in-None : goal.returns-in-None
returns-in-None c =
    none_at target_of target_start c.args.reads.now 255 c.in-None.ensures.lookup
