use Rattle.std.proofs.Common.{◌∙◌}
use Rattle.std.specs.Str.{str_eq_ignore_ascii_case}
use Rattle.bql_grammar.specs.Read as read
use Rattle.bql_grammar.specs.Read.{target_of}
use Rattle.bql_parser.proofs.SettlingFacts.{position_map}
use Rattle.bql_parser.proofs.settling.target_named.Goals as goal

pub returns : goal.returns
returns c =
    c.first_named.ensures
    ∙ position_map target_of
    (λ (t : read.Target). str_eq_ignore_ascii_case t.name c.args.name.now) c.args.targets.now
