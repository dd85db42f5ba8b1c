use Rattle.std.proofs.Common.{◌≡◌, List, Option, Some, None, map, sym, subst}
use Rattle.clap.specs.Walk.{Text}
use Rattle.requests.specs.Commands.{request_in}
use Rattle.requests.specs.declared.words.Request.{Request}
use Rattle.bq.specs.Named.{AskFor, asked_or_refused}
use Rattle.bq.proofs.commands.asked_by.Goals as goal

told : (words : List Text) (asked : Option Request) → asked ≡ request_in words
    → AskFor words (asked_or_refused asked)
told words (Some request) is = sym is
told words None is = sym is

pub returns : goal.returns
returns c =
    let words = map (λ w. w.now) c.args.words.now in
    subst (AskFor words) (sym c.asked_or_refused.ensures)
    (told words c.in_ok-asked.asked c.in_ok-asked.ensures)
