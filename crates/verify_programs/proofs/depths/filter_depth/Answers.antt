use Rattle.std.proofs.Common.{Err, sym, ◌∙◌, subst}
use Rattle.verify_programs.specs.Passing.{IsLeast, Passes}
use Rattle.verify_programs.specs.Depths.{Lacks}
use Rattle.verify_programs.proofs.CarriedFacts.{carry, lacks_filter}
use Rattle.verify_programs.proofs.WholeFacts.{filter_amiss, filter_found}
use Rattle.verify_programs.proofs.depths.filter_depth.Goals as goal

pub returns-then-not-is_one_truth : goal.returns-then-not-is_one_truth
returns-then-not-is_one_truth c =
    let least = carry (λ pool l code. IsLeast pool l code c.in-Ok.passed.end c.in-Ok.passed.depth)
    c.as_slice.ensures c.of_filter-loads.ensures c.as_slice-code.ensures c.in-Ok.ensures in
    subst (λ r. Lacks c.args.parts.now r) (sym c.fault.ensures) (
      filter_amiss c.args.parts.now c.in-Ok.passed.end c.in-Ok.passed.depth least
          (λ e. c.if-not-is_one_truth.ensures (c.values.ensures ∙ e)),
      tt,
    )

pub returns-in-Ok : goal.returns-in-Ok
returns-in-Ok c =
    let least = carry (λ pool l code. IsLeast pool l code c.in-Ok.passed.end c.in-Ok.passed.depth)
    c.as_slice.ensures c.of_filter-loads.ensures c.as_slice-code.ensures c.in-Ok.ensures in
    filter_found c.args.parts.now c.in-Ok.passed.end c.in-Ok.passed.depth least
    (sym c.values.ensures ∙ c.if-not-is_one_truth.ensures)

pub returns : goal.returns
returns c =
    subst (λ r. Lacks c.args.parts.now r) (sym c.in_filter.ensures)
    (lacks_filter c.args.parts.now c.in-Err.refusal
    (carry (λ pool l code. Passes pool l code (Err c.in-Err.refusal)) c.as_slice.ensures
    c.of_filter-loads.ensures c.as_slice-code.ensures c.in-Err.ensures))
