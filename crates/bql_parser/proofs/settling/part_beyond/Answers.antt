use Rattle.bql_tree.specs.Part.{part_of}
use Rattle.bql_parser.specs.Settled.{part_start}
use Rattle.bql_parser.proofs.SettlingFacts.{viewed_at, none_at}
use Rattle.bql_parser.proofs.settling.part_beyond.Goals as goal

pub returns-in-Some : goal.returns-in-Some
returns-in-Some c =
    viewed_at part_of part_start c.args.parts.now 255 c.in-Some.part c.in-Some.ensures.lookup

pub returns-in-None : goal.returns-in-None
returns-in-None c = none_at part_of part_start c.args.parts.now 255 c.in-None.ensures.lookup
