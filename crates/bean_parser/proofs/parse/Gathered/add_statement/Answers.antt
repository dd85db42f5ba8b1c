use Rattle.std.proofs.Common.{refl}
use Rattle.std.proofs.lemmas.Result.{on_ok_weaker}
use Rattle.bean_parser.proofs.GatheredFacts.{directive_adds}
use Rattle.bean_parser.proofs.parse.Gathered.add_statement.Goals as goal

pub returns-in-Directive : goal.returns-in-Directive
returns-in-Directive c =
    on_ok_weaker c.push.result
    (λ added os h. directive_adds os _ _ c.args.self.now _ c.in-Directive.is added refl refl refl h)
    c.push.ensures
