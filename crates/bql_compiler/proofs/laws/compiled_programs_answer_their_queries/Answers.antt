use Rattle.bql_parser.proofs.SmallLaw.{queries_are_small}
use Rattle.bql_parser.specs.Answer.{query_of}
use Rattle.bql_plan.specs.Plan.{plan}
use Rattle.bql_compiler.specs.Program.{depth_of, parts_of, sections_of}
use Rattle.bql_compiler.proofs.laws.compiled_programs_answer_their_queries.Goals as goal

pub returns : goal.returns
returns c = λ b q bounds typed shallow has ledger fits shaped.
    let s = query_of q in
    let p = parts_of b s in
    let depth = depth_of (sections_of b s (plan s)) in
    let is_depth = c.compiled_programs_are_well_shaped.ensures b s bounds typed (queries_are_small q) shallow in
    let safe = c.programs_run_safely_where_ledgers_fit.ensures p depth ledger has ∣ is_depth ∣₁ fits shaped in
    let a = c.programs_have_one_answer.ensures.there p ledger safe.never_faults in
    let carries = c.compiled_programs_carry_their_queries.ensures b q typed in
    (a.0, a.1, carries.answers ledger a.0 a.1)
