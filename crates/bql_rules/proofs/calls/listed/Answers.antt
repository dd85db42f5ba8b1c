use Rattle.std.proofs.Common.{◌∙◌}
use Rattle.bql_rules.proofs.ListFacts.{first_and_others}
use Rattle.bql_rules.proofs.calls.listed.Goals as goal

pub returns-in-len1-up : goal.returns-in-len1-up
returns-in-len1-up c =
    c.one_of.ensures ∙ first_and_others c.args.arguments.now _ c.in-len1-up.len_at_least
