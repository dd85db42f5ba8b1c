use Rattle.std.proofs.Common.{Some, ap, ◌∙◌}
use Rattle.clap.specs.Words.{found_of}
use Rattle.clap.proofs.WalkLemmas.{raw_values-rows}
use Rattle.requests.proofs.words.all_words.Goals as goal

pub returns-in-None : goal.returns-in-None
returns-in-None c =
    c.in-None.ensures ∙ raw_values-rows (found_of c.args.words.now) c.args.name.now

pub returns : goal.returns
returns c =
    ap Some c.in_ok-list.ensures
    ∙ (c.in-Some.ensures ∙ raw_values-rows (found_of c.args.words.now) c.args.name.now)
