use Rattle.std.proofs.Common.{refl}
use Rattle.std.proofs.lemmas.Result.{on_ok_weaker}
use Rattle.query_runs.specs.Stands.{rows_in, stand_of}
use Rattle.query_runs.proofs.FilterStage.{goes_at_once, in_filter_there, passing_fine}
use Rattle.query_runs.proofs.going.pass_at_once.Goals as goal

pub pass-requires-clause-there : goal.pass-requires-clause-there
pass-requires-clause-there c =
    let p = c.args.input.now.parts.now in
    let rows = rows_in c.args.input.now in
    let run = c.args.run.now in
    (in_filter_there p rows run 0 run.frame.stack.room c.requires.stage refl c.requires.safe).there

pub pass-requires-clause-fine : goal.pass-requires-clause-fine
pass-requires-clause-fine c =
    let p = c.args.input.now.parts.now in
    let rows = rows_in c.args.input.now in
    let run = c.args.run.now in
    let room = run.frame.stack.room in
    passing_fine p rows run room
    (in_filter_there p rows run 0 room c.requires.stage refl c.requires.safe)
    c.requires.stage c.requires.filter c.requires.first c.requires.safe

pub returns-clause-goes : goal.returns-clause-goes
returns-clause-goes c =
    let p = c.args.input.now.parts.now in
    let rows = rows_in c.args.input.now in
    let run = c.args.run.now in
    let room = run.frame.stack.room in
    on_ok_weaker c.pass.result
    (goes_at_once p rows run room
    (in_filter_there p rows run 0 room c.requires.stage refl c.requires.safe)
    c.requires.stage c.requires.filter c.requires.first c.requires.safe
    (stand_of rows c.pass.new.run))
    c.pass.ensures.stand
