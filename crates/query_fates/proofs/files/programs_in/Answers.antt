use Rattle.std.proofs.Common.{◌≡◌, ◌+◌, arith, drop, [], ◌∷◌, subst}
use Rattle.std.proofs.lemmas.Grind.{common_steps}
use Rattle.query_fates.proofs.BatchFileFacts.{AreSoFar, program_next, programs_end}
use Rattle.query_fates.proofs.files.programs_in.Goals as goal

pub loop-file-preserved : goal.loop-file-preserved
loop-file-preserved c =
    let files = c.args.files.now in
    let programs = c.loop-file.programs.items in
    let left = drop (c.loop-file.file-index + 1) files in
    let next : drop c.loop-file.file-index files ≡ c.file-item.result ∷ left =
    grind (arith, common_steps) in
    program_next files left c.file-item.result programs c.push.new.self.items
    c.in_ok-program.program (subst (λ fs. AreSoFar files fs programs) next c.loop-file.invariant)
    c.in_ok-program.ensures c.in_ok-push.ensures.items

pub returns : goal.returns
returns c =
    let files = c.args.files.now in
    let programs = c.loop-file.programs.items in
    let none : drop c.loop-file.file-index files ≡ [] = grind (arith, common_steps) in
    programs_end files programs (subst (λ fs. AreSoFar files fs programs) none c.loop-file.invariant)
