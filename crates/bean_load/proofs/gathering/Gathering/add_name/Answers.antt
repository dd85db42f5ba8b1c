use Rattle.std.proofs.Common.{◌∙◌, ap}
use Rattle.std.specs.String.{string_bytes}
use Rattle.bean_load.specs.Gathered.{was_asked}
use Rattle.bean_load.proofs.AskedFacts.{asked_one, name_added}
use Rattle.bean_load.proofs.gathering.Gathering.add_name.Goals as goal

pub returns : goal.returns
returns c =
    asked_one c.args.name.now _ _ _
    (name_added string_bytes c.args.name.now c.self.inside.asked.keys c.insert.new.self.keys
    c.in_ok-name.name c.in_ok-name.ensures.ok
    (ap (was_asked c.args.name.now) c.self.view_is ∙ c.requires) c.in_ok-insert.ensures.keys)
    c.self.view_is
