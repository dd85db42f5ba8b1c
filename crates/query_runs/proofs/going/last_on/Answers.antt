use Rattle.std.proofs.Common.{◌∙◌, ◌+◌, sym, refl, arith}
use Rattle.query_runs.specs.Stands.{rows_in, stand_of}
use Rattle.query_runs.proofs.LastStage.{in_last_there, last_safely, last_ended, last_inside}
use Rattle.query_runs.proofs.LastStage.{last_going, last_at_next, last_made, group_of}
use Rattle.query_runs.proofs.Turning.{goes_on_from}
use Rattle.query_runs.proofs.going.last_on.Goals as goal

pub get-requires : goal.get-requires
get-requires c =
    let p = c.args.input.now.parts.now in
    let rows = rows_in c.args.input.now in
    let run = c.args.run.now in
    let room = run.frame.stack.room in
    let f = in_last_there p rows run 0 room c.requires.stage
    refl c.requires.safe in
    f.there

pub get-requires-2 : goal.get-requires-2
get-requires-2 c =
    let p = c.args.input.now.parts.now in
    let rows = rows_in c.args.input.now in
    let run = c.args.run.now in
    let room = run.frame.stack.room in
    let f = in_last_there p rows run 0 room c.requires.stage
    refl c.requires.safe in
    f.there

pub go_on-requires-clause-within : goal.go_on-requires-clause-within
go_on-requires-clause-within c =
    let p = c.args.input.now.parts.now in
    let rows = rows_in c.args.input.now in
    let run = c.args.run.now in
    let room = run.frame.stack.room in
    let f = in_last_there p rows run 0 room c.requires.stage
    refl c.requires.safe in
    let inside = last_inside p rows run 0 room f c.as_slice.result.now
    c.as_slice-2.result.now c.as_slice.ensures c.as_slice-2.ensures c.get.result.keys.now
    c.get-2.result.totals.now (group_of run.groups run.group c.get.result.keys.now
    c.get.result.totals.now c.get-2.result.keys.now c.get-2.result.totals.now c.get.ensures
    c.get-2.ensures) c.requires.safe in
    omega (arith, inside)

pub go_on-requires-clause-safe : goal.go_on-requires-clause-safe
go_on-requires-clause-safe c =
    let p = c.args.input.now.parts.now in
    let rows = rows_in c.args.input.now in
    let run = c.args.run.now in
    let room = run.frame.stack.room in
    let f = in_last_there p rows run 0 room c.requires.stage
    refl c.requires.safe in
    last_safely p rows run 0 room f c.as_slice.result.now
    c.as_slice-2.result.now c.as_slice.ensures c.as_slice-2.ensures c.get.result.keys.now
    c.get-2.result.totals.now (group_of run.groups run.group c.get.result.keys.now
    c.get.result.totals.now c.get-2.result.keys.now c.get-2.result.totals.now c.get.ensures
    c.get-2.ensures) c.requires.safe

pub end_last-requires-clause-there : goal.end_last-requires-clause-there
end_last-requires-clause-there c =
    let p = c.args.input.now.parts.now in
    let rows = rows_in c.args.input.now in
    let run = c.args.run.now in
    let room = run.frame.stack.room in
    let f = in_last_there p rows run 0 room c.requires.stage
    refl c.requires.safe in
    f.there

pub end_last-requires-clause-fine : goal.end_last-requires-clause-fine
end_last-requires-clause-fine c = λ fault.
    let p = c.args.input.now.parts.now in
    let rows = rows_in c.args.input.now in
    let run = c.args.run.now in
    let room = run.frame.stack.room in
    let f = in_last_there p rows run 0 room c.requires.stage
    refl c.requires.safe in
    c.requires.safe.never_faults (0 + c.in_ok-made.made)
    (last_ended p rows run 0 room f c.as_slice.result.now
    c.as_slice-2.result.now c.as_slice.ensures c.as_slice-2.ensures c.get.result.keys.now
    c.get-2.result.totals.now (group_of run.groups run.group c.get.result.keys.now
    c.get.result.totals.now c.get-2.result.keys.now c.get-2.result.totals.now c.get.ensures
    c.get-2.ensures) c.requires.safe c.in_ok-made.made c.in_ok-made.ensures.inside c.go_on.new.frame
    c.in_ok-made.ensures.stands c.if-run-section.true ∙ fault)

pub returns-in_ok-end_last-clause-some : goal.returns-in_ok-end_last-clause-some
returns-in_ok-end_last-clause-some c =
    let p = c.args.input.now.parts.now in
    let rows = rows_in c.args.input.now in
    let run = c.args.run.now in
    let room = run.frame.stack.room in
    let f = in_last_there p rows run 0 room c.requires.stage
    refl c.requires.safe in
    last_made p rows run 0 room f c.as_slice.result.now
    c.as_slice-2.result.now c.as_slice.ensures c.as_slice-2.ensures c.get.result.keys.now
    c.get-2.result.totals.now (group_of run.groups run.group c.get.result.keys.now
    c.get.result.totals.now c.get-2.result.keys.now c.get-2.result.totals.now c.get.ensures
    c.get-2.ensures) c.requires.safe c.in_ok-made.made c.in_ok-made.ensures.inside c.go_on.new.frame
    c.in_ok-made.ensures.stands c.args.most c.requires.more c.in_ok-made.ensures.ends

pub returns-in_ok-end_last-clause-goes : goal.returns-in_ok-end_last-clause-goes
returns-in_ok-end_last-clause-goes c =
    let p = c.args.input.now.parts.now in
    let rows = rows_in c.args.input.now in
    let run = c.args.run.now in
    let room = run.frame.stack.room in
    let f = in_last_there p rows run 0 room c.requires.stage
    refl c.requires.safe in
    goes_on_from p (stand_of rows run) 0 c.in_ok-made.made _ _ refl
    (c.in_ok-end_last.ensures.stand
    ∙ sym (last_ended p rows run 0 room f c.as_slice.result.now
    c.as_slice-2.result.now c.as_slice.ensures c.as_slice-2.ensures c.get.result.keys.now
    c.get-2.result.totals.now (group_of run.groups run.group c.get.result.keys.now
    c.get.result.totals.now c.get-2.result.keys.now c.get-2.result.totals.now c.get.ensures
    c.get-2.ensures) c.requires.safe c.in_ok-made.made c.in_ok-made.ensures.inside c.go_on.new.frame
    c.in_ok-made.ensures.stands c.if-run-section.true))
    (last_going p rows run 0 room f c.as_slice.result.now
    c.as_slice-2.result.now c.as_slice.ensures c.as_slice-2.ensures c.get.result.keys.now
    c.get-2.result.totals.now (group_of run.groups run.group c.get.result.keys.now
    c.get.result.totals.now c.get-2.result.keys.now c.get-2.result.totals.now c.get.ensures
    c.get-2.ensures) c.requires.safe c.in_ok-made.made c.in_ok-made.ensures.inside c.go_on.new.frame
    c.in_ok-made.ensures.stands)

pub returns-else-run-section-clause-some : goal.returns-else-run-section-clause-some
returns-else-run-section-clause-some c =
    let p = c.args.input.now.parts.now in
    let rows = rows_in c.args.input.now in
    let run = c.args.run.now in
    let room = run.frame.stack.room in
    let f = in_last_there p rows run 0 room c.requires.stage
    refl c.requires.safe in
    last_made p rows run 0 room f c.as_slice.result.now
    c.as_slice-2.result.now c.as_slice.ensures c.as_slice-2.ensures c.get.result.keys.now
    c.get-2.result.totals.now (group_of run.groups run.group c.get.result.keys.now
    c.get.result.totals.now c.get-2.result.keys.now c.get-2.result.totals.now c.get.ensures
    c.get-2.ensures) c.requires.safe c.in_ok-made.made c.in_ok-made.ensures.inside c.go_on.new.frame
    c.in_ok-made.ensures.stands c.args.most c.requires.more c.in_ok-made.ensures.ends

pub returns-else-run-section-clause-goes : goal.returns-else-run-section-clause-goes
returns-else-run-section-clause-goes c =
    let p = c.args.input.now.parts.now in
    let rows = rows_in c.args.input.now in
    let run = c.args.run.now in
    let room = run.frame.stack.room in
    let f = in_last_there p rows run 0 room c.requires.stage
    refl c.requires.safe in
    goes_on_from p (stand_of rows run) 0 c.in_ok-made.made _ _ refl
    (last_at_next p rows run 0 room f c.as_slice.result.now
    c.as_slice-2.result.now c.as_slice.ensures c.as_slice-2.ensures c.get.result.keys.now
    c.get-2.result.totals.now (group_of run.groups run.group c.get.result.keys.now
    c.get.result.totals.now c.get-2.result.keys.now c.get-2.result.totals.now c.get.ensures
    c.get-2.ensures) c.requires.safe c.in_ok-made.made c.in_ok-made.ensures.inside c.go_on.new.frame
    c.in_ok-made.ensures.stands _ c.if-run-section.false refl refl refl refl
    c.requires.stage)
    (last_going p rows run 0 room f c.as_slice.result.now
    c.as_slice-2.result.now c.as_slice.ensures c.as_slice-2.ensures c.get.result.keys.now
    c.get-2.result.totals.now (group_of run.groups run.group c.get.result.keys.now
    c.get.result.totals.now c.get-2.result.keys.now c.get-2.result.totals.now c.get.ensures
    c.get-2.ensures) c.requires.safe c.in_ok-made.made c.in_ok-made.ensures.inside c.go_on.new.frame
    c.in_ok-made.ensures.stands)
