use Rattle.std.proofs.Common.{ap, ◌∙◌}
use Rattle.std.specs.Prelude.{◌^◌, ◌-◌}
use Rattle.std.specs.Option.{option_and_then}
use Rattle.clap.specs.Words.{found_of}
use Rattle.clap.proofs.WalkLemmas.{first_value-rows}
use Rattle.std.specs.Prelude.{codes}
use Rattle.requests.specs.Compile.{number_in}
use Rattle.requests.proofs.words.steps.Goals as goal

pub returns-in-Some : goal.returns-in-Some
returns-in-Some c =
    c.number_in.ensures
    ∙ ap (option_and_then (number_in (2 ^ 64 - 1)))
    (c.in-Some.ensures ∙ first_value-rows (found_of c.args.words.now) (codes "K"))

pub returns-in-None : goal.returns-in-None
returns-in-None c =
    ap (option_and_then (number_in (2 ^ 64 - 1)))
    (c.in-None.ensures ∙ first_value-rows (found_of c.args.words.now) (codes "K"))
