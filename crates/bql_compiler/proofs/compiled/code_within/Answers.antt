use Rattle.std.proofs.Common.{◌≤◌, length, sym, subst}
use Rattle.bql_compiler.proofs.PlannedFacts.{can_be_lowered}
use Rattle.bql_compiler.proofs.RefusalFacts.{few_counted, is_within, long_refusal, stopped_refusal}
use Rattle.bql_compiler.specs.Kept.{sections_of}
use Rattle.bql_parser.proofs.SmallLaw.{queries_are_small}
use Rattle.bql_parser.specs.Answer.{query_of}
use Rattle.bql_plan.specs.Kept.{numbered_of}
use Rattle.limits.specs.declared.counts.TheConstants.{MOST_ITEMS}
use Rattle.bql_compiler.proofs.compiled.code_within.Goals as goal

pub returns-in-Err-clause-refusal : goal.returns-in-Err-clause-refusal
returns-in-Err-clause-refusal c =
    let typed = c.args.typed.now in
    long_refusal typed.bounds (query_of typed.query.now) (sections_of c.in_ok-sections.sections)
    c.in_ok-sections.ensures c.in-Err.refusal c.in-Err.ensures.refusal

pub returns-in-Err-constants_within-clause-refusal : goal.returns-in-Err-constants_within-clause-refusal
returns-in-Err-constants_within-clause-refusal c =
    let typed = c.args.typed.now in
    stopped_refusal typed.bounds (query_of typed.query.now) (sections_of c.in_ok-sections.sections)
    c.in_ok-sections.ensures
    (few_counted (query_of typed.query.now) (numbered_of c.args.numbering.now) c.requires.plan _
    c.gathered.ensures c.if-gathered-gt-MOST_ITEMS.false)
    c.in-Ok.ensures.room _ c.in-Ok.ensures.pool c.in-Err-constants_within.refusal
    c.in-Err-constants_within.ensures.refusal

pub code_over-requires-clause-keys : goal.code_over-requires-clause-keys
code_over-requires-clause-keys c =
    let typed = c.args.typed.now in
    subst (λ p. length p.grouping.keys ≤ MOST_ITEMS) (sym c.requires.plan)
    (can_be_lowered typed.bounds (query_of typed.query.now) typed.has_type
    (queries_are_small typed.query.now)).few

pub returns-clause-within : goal.returns-clause-within
returns-clause-within c =
    let typed = c.args.typed.now in
    is_within typed.bounds (query_of typed.query.now) (sections_of c.in_ok-sections.sections)
    c.in_ok-sections.ensures
    (few_counted (query_of typed.query.now) (numbered_of c.args.numbering.now) c.requires.plan _
    c.gathered.ensures c.if-gathered-gt-MOST_ITEMS.false)
    c.in-Ok.ensures.room c.in-Ok-constants_within.ensures.shallow
