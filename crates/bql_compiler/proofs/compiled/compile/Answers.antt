use Rattle.std.proofs.Common.{sym, subst}
use Rattle.bql_compiler.proofs.FileFacts.{compiled_carries, compiled_fits, compiled_shaped}
use Rattle.bql_compiler.proofs.FileFacts.{parts_are}
use Rattle.bql_compiler.proofs.PlannedFacts.{has_room}
use Rattle.bql_compiler.specs.Carried.{Carries}
use Rattle.bql_compiler.specs.Limits.{IsCompiled}
use Rattle.bql_compiler.specs.Output.{HasRoom}
use Rattle.bql_parser.proofs.SmallLaw.{queries_are_small}
use Rattle.bql_parser.specs.Answer.{query_of}
use Rattle.bql_compiler.proofs.CarriedFacts.{carries}
use Rattle.bql_plan.specs.Kept.{numbered_of}
use Rattle.query_code.specs.QueryFile.{file}
use Rattle.well_shaped.specs.Program.{IsWellShaped}
use Rattle.bql_compiler.proofs.compiled.compile.Goals as goal

pub output_of-requires : goal.output_of-requires
output_of-requires c =
    let typed = c.args.typed.now in
    let q = query_of typed.query.now in
    record {
      room =
          subst (HasRoom q) (sym c.in_ok-numbering.ensures)
          (has_room typed.bounds q typed.has_type (queries_are_small typed.query.now)
          c.in-Ok.ensures.within.1);
    }

pub invariant_of-result : goal.invariant_of-result
invariant_of-result c =
    let typed = c.args.typed.now in
    let q = query_of typed.query.now in
    let made = c.in_ok-output.ensures in
    record {
      has_file =
          subst (λ p. ∥ file.fits p ∥₁) (sym c.parts_of.ensures)
          (compiled_fits typed.bounds q typed.within typed.has_type (queries_are_small typed.query.now)
          _
          (parts_are typed.bounds q (numbered_of c.in_ok-numbering.numbering)
          c.in_ok-numbering.ensures c.mode_of-mode.result c.mode_of-mode.ensures c.in_ok-output.output
          made.output c.in-Ok.code c.in-Ok.ensures.code c.in-Ok.ensures.within)
          made.names made.limit c.in-Ok.ensures.forms);
    }

pub returns-clause-answer : goal.returns-clause-answer
returns-clause-answer c =
    let typed = c.args.typed.now in
    let q = query_of typed.query.now in
    subst (IsCompiled typed.bounds q) (sym c.parts_of.ensures)
    (parts_are typed.bounds q (numbered_of c.in_ok-numbering.numbering) c.in_ok-numbering.ensures
    c.mode_of-mode.result c.mode_of-mode.ensures c.in_ok-output.output c.in_ok-output.ensures.output
    c.in-Ok.code c.in-Ok.ensures.code c.in-Ok.ensures.within)

pub returns-clause-shaped : goal.returns-clause-shaped
returns-clause-shaped c =
    let typed = c.args.typed.now in
    let q = query_of typed.query.now in
    subst (λ p. ∥ IsWellShaped p ∥₁) (sym c.parts_of.ensures)
    (compiled_shaped typed.bounds q typed.within typed.has_type (queries_are_small typed.query.now) _
    (parts_are typed.bounds q (numbered_of c.in_ok-numbering.numbering) c.in_ok-numbering.ensures
    c.mode_of-mode.result c.mode_of-mode.ensures c.in_ok-output.output c.in_ok-output.ensures.output
    c.in-Ok.code c.in-Ok.ensures.code c.in-Ok.ensures.within))

pub returns-clause-carries : goal.returns-clause-carries
returns-clause-carries c =
    let typed = c.args.typed.now in
    let q = query_of typed.query.now in
    subst (λ p. Carries typed.bounds p q) (sym c.parts_of.ensures)
    (compiled_carries typed.bounds q _
    (parts_are typed.bounds q (numbered_of c.in_ok-numbering.numbering) c.in_ok-numbering.ensures
    c.mode_of-mode.result c.mode_of-mode.ensures c.in_ok-output.output c.in_ok-output.ensures.output
    c.in-Ok.code c.in-Ok.ensures.code c.in-Ok.ensures.within)
    (carries typed.bounds typed.query.now typed.has_type))
