use Rattle.std.proofs.Common.{Err, sym, subst}
use Rattle.query_files.specs.Texts.{HasProgram}
use Rattle.query_files.proofs.TextFacts.{programmed, uncompilable, untypable}
use Rattle.query_files.proofs.compiling.program_of.Goals as goal

pub returns-in-Err-type_query : goal.returns-in-Err-type_query
returns-in-Err-type_query c =
    let b = c.args.bounds.now in
    let text = c.args.text.now in
    subst (λ r. HasProgram b text (Err r)) (sym c.untyped.ensures)
    (untypable b text c.in-Ok.query c.in-Ok.ensures c.in-Err-type_query.refusal
    c.in-Err-type_query.ensures)

pub returns-in-Ok-compile : goal.returns-in-Ok-compile
returns-in-Ok-compile c =
    let made = c.in-Ok-compile.ensures in
    programmed c.args.bounds.now c.args.text.now c.in-Ok.query c.in-Ok.ensures
    c.in-Ok-type_query.typed c.in-Ok-type_query.ensures c.in-Ok-compile.program made.answer
    made.carries made.shaped

pub returns : goal.returns
returns c =
    let b = c.args.bounds.now in
    let text = c.args.text.now in
    subst (λ r. HasProgram b text (Err r)) (sym c.uncompiled.ensures)
    (uncompilable b text c.in-Ok.query c.in-Ok.ensures c.in-Ok-type_query.typed
    c.in-Ok-type_query.ensures c.in-Err-compile.refusal c.in-Err-compile.ensures.refusal)
