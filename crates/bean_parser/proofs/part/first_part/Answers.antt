use Rattle.theory.proofs.CutFacts.{first_cut_of}
use Rattle.bean_parser.specs.Part.{begins}
use Rattle.bean_parser.proofs.part.first_part.Goals as goal

pub returns-clause-front : goal.returns-clause-front
returns-clause-front c =
    first_cut_of (begins c.args.part) _ _ _ _ _ _ c.in_ok-others.ensures.cases.0 c.reach.ensures.len
    c.split_at.ensures.front c.split_at.ensures.back
