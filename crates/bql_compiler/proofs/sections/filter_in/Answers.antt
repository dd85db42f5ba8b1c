use Rattle.bql_parser.proofs.SmallLaw.{queries_are_small}
use Rattle.bql_parser.specs.Answer.{query_of}
use Rattle.bql_compiler.proofs.PlannedFacts.{can_be_lowered}
use Rattle.bql_compiler.proofs.sections.filter_in.Goals as goal

pub filter_of-requires-clause-lowers : goal.filter_of-requires-clause-lowers
filter_of-requires-clause-lowers c =
    let typed = c.args.typed.now in
    (can_be_lowered typed.bounds (query_of typed.query.now) typed.has_type
    (queries_are_small typed.query.now)).from

pub filter_of-requires-2-clause-lowers : goal.filter_of-requires-2-clause-lowers
filter_of-requires-2-clause-lowers c =
    let typed = c.args.typed.now in
    (can_be_lowered typed.bounds (query_of typed.query.now) typed.has_type
    (queries_are_small typed.query.now)).filter
