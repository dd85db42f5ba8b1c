use Rattle.std.proofs.Common.{ap, ◌∙◌}
use Rattle.std.proofs.lemmas.List.{length-map}
use Rattle.query_answer.proofs.GivenUpFacts.{span_cleared}
use Rattle.query_answer.proofs.MovedFacts.{put_around}
use Rattle.query_answer.specs.Spans.{values_in}
use Rattle.query_values.specs.declared.value.Value.TheVariants.{Null}
use Rattle.std.proofs.Common.{length}
use Rattle.query_answer.proofs.rows.clear_span.Goals as goal

pub returns-clause-cleared : goal.returns-clause-cleared
returns-clause-cleared c =
    span_cleared c.args.span c.args.values.now c.clear.new.values c.requires.up c.requires.inside
    c.clear.ensures

pub returns-clause-left : goal.returns-clause-left
returns-clause-left c =
    put_around c.args.span c.args.values.now c.clear.new.values c.requires.up c.requires.inside
    (ap length c.clear.ensures ∙ length-map (values_in c.args.values.now c.args.span) (λ v. Null))
