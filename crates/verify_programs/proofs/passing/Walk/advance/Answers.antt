use Rattle.std.proofs.Common.{◌+◌, sym, ◌∙◌, subst, arith}
use Rattle.std.proofs.lemmas.Option.{slice_get-get_or}
use Rattle.well_shaped.specs.Sections.{shape_acts}
use Rattle.verify_programs.specs.Pass.{Stands}
use Rattle.verify_programs.proofs.AnswerFacts.{not_arrived, not_on, not_applied}
use Rattle.verify_programs.proofs.StepFacts.{one_more}
use Rattle.verify_programs.proofs.passing.Walk.advance.Goals as goal

pub returns-in-Err : goal.returns-in-Err
returns-in-Err c =
    let inside = c.requires.within in
    not_arrived c.args.pool.now c.args.loads.now c.args.code.now c.args.place _ _
    (omega (arith, inside)) c.requires.stands (Unit {0}) c.in-Err.refusal _ _ _ _ c.in-Err.ensures

pub returns-then-not-leads_on : goal.returns-then-not-leads_on
returns-then-not-leads_on c =
    let inside = c.requires.within in
    not_on c.args.pool.now c.args.loads.now c.args.code.now c.args.place _ _
    (omega (arith, inside)) c.requires.stands c.in-Ok.state _ _ c.in-Ok.ensures _
    (slice_get-get_or c.args.code.now c.args.place _ inside)
    (sym c.leads_on.ensures ∙ c.if-not-leads_on.true)

pub returns-in-Err-apply : goal.returns-in-Err-apply
returns-in-Err-apply c =
    let inside = c.requires.within in
    not_applied c.args.pool.now c.args.loads.now c.args.code.now c.args.place _ _
    (omega (arith, inside)) c.requires.stands c.in-Ok.state _ _ c.in-Ok.ensures _
    (slice_get-get_or c.args.code.now c.args.place _ inside) (Unit {0}) (Unit {0}) c.in-Err-apply.refusal _ _ _
    c.in-Err-apply.ensures.becomes c.in-Err-apply.ensures.cause

pub returns : goal.returns
returns c =
    let inside = c.requires.within in
    subst (λ w. Stands (shape_acts c.args.pool.now c.args.loads.now) c.args.code.now
    (c.args.place + 1) w c.arrive.new.self.depth) (sym c.in_ok-spread.ensures)
    (one_more (shape_acts c.args.pool.now c.args.loads.now) c.args.code.now c.args.place _
    c.in-Ok.state _ _ _ _ _ inside (slice_get-get_or c.args.code.now c.args.place _ inside)
    c.requires.stands c.in-Ok.ensures (sym c.leads_on.ensures ∙ c.if-not-leads_on.false)
    c.in_default.ensures.becomes)
