use Rattle.std.proofs.Common.{ap, ◌∙◌}
use Rattle.clap.specs.Words.{found_of}
use Rattle.clap.proofs.WalkLemmas.{first_value-rows}
use Rattle.requests.specs.Compile.{bound_of}
use Rattle.requests.proofs.words.bound.Goals as goal

pub returns-in-Some : goal.returns-in-Some
returns-in-Some c =
    c.number_in.ensures
    ∙ ap (bound_of c.args.most)
    (c.in-Some.ensures ∙ first_value-rows (found_of c.args.words.now) c.args.name.now)

pub returns-in-None : goal.returns-in-None
returns-in-None c =
    ap (bound_of c.args.most)
    (c.in-None.ensures ∙ first_value-rows (found_of c.args.words.now) c.args.name.now)
