use Rattle.std.proofs.Common.{◌∙◌, ap}
use Rattle.std.specs.String.{string_bytes}
use Rattle.bean_load.specs.Gathered.{was_asked}
use Rattle.bean_load.proofs.AskedFacts.{among_is}
use Rattle.bean_load.proofs.gathering.Gathering.was_asked.Goals as goal

pub returns : goal.returns
returns c =
    c.contains.ensures ∙ among_is string_bytes c.args.name.now c.self.inside.asked.keys
    ∙ ap (was_asked c.args.name.now) c.self.view_is
