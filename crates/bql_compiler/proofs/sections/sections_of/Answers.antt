use Rattle.std.proofs.Common.{◌≤◌, length, sym, subst}
use Rattle.bql_compiler.proofs.PlannedFacts.{can_be_lowered}
use Rattle.bql_compiler.specs.Lowers.{AllLower}
use Rattle.bql_parser.proofs.SmallLaw.{queries_are_small}
use Rattle.bql_parser.specs.Answer.{query_of}
use Rattle.bql_compiler.specs.Program.{inputs_in}
use Rattle.limits.specs.declared.counts.TheConstants.{MOST_ITEMS}
use Rattle.bql_compiler.proofs.sections.sections_of.Goals as goal

pub row_of-requires-clause-shown : goal.row_of-requires-clause-shown
row_of-requires-clause-shown c =
    let typed = c.args.typed.now in
    subst (λ p. AllLower typed.bounds p.shown) (sym c.requires.plan)
    (can_be_lowered typed.bounds (query_of typed.query.now) typed.has_type
    (queries_are_small typed.query.now)).shown

pub row_of-requires-clause-keys : goal.row_of-requires-clause-keys
row_of-requires-clause-keys c =
    let typed = c.args.typed.now in
    subst (λ p. AllLower typed.bounds p.grouping.keys) (sym c.requires.plan)
    (can_be_lowered typed.bounds (query_of typed.query.now) typed.has_type
    (queries_are_small typed.query.now)).keys

pub row_of-requires-clause-inputs : goal.row_of-requires-clause-inputs
row_of-requires-clause-inputs c =
    let typed = c.args.typed.now in
    subst (λ p. AllLower typed.bounds (inputs_in p.aggregates)) (sym c.requires.plan)
    (can_be_lowered typed.bounds (query_of typed.query.now) typed.has_type
    (queries_are_small typed.query.now)).inputs

pub last_of-requires-clause-shown : goal.last_of-requires-clause-shown
last_of-requires-clause-shown c =
    let typed = c.args.typed.now in
    subst (λ p. AllLower typed.bounds p.shown) (sym c.requires.plan)
    (can_be_lowered typed.bounds (query_of typed.query.now) typed.has_type
    (queries_are_small typed.query.now)).shown

pub last_of-requires-clause-keys : goal.last_of-requires-clause-keys
last_of-requires-clause-keys c =
    let typed = c.args.typed.now in
    subst (λ p. length p.grouping.keys ≤ MOST_ITEMS) (sym c.requires.plan)
    (can_be_lowered typed.bounds (query_of typed.query.now) typed.has_type
    (queries_are_small typed.query.now)).few
