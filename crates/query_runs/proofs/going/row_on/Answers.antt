use Rattle.std.proofs.Common.{◌∙◌, ◌+◌, sym, refl, arith}
use Rattle.query_runs.specs.Stands.{rows_in, stand_of}
use Rattle.query_runs.proofs.RowStage.{in_row_there, row_safely, row_ended, row_inside}
use Rattle.query_runs.proofs.RowStage.{row_going, row_at_next, row_made}
use Rattle.query_runs.proofs.Starts.{posting_there}
use Rattle.query_runs.proofs.Turning.{goes_on_from}
use Rattle.query_runs.proofs.going.row_on.Goals as goal

pub row-requires : goal.row-requires
row-requires c =
    let p = c.args.input.now.parts.now in
    let rows = rows_in c.args.input.now in
    let run = c.args.run.now in
    let f = in_row_there p rows run 0 run.frame.stack.room c.requires.stage refl c.requires.safe in
    posting_there c.args.input.now.ledger.now run.row f.there

pub go_on-requires-clause-within : goal.go_on-requires-clause-within
go_on-requires-clause-within c =
    let p = c.args.input.now.parts.now in
    let rows = rows_in c.args.input.now in
    let run = c.args.run.now in
    let room = run.frame.stack.room in
    let f = in_row_there p rows run 0 room c.requires.stage refl
    c.requires.safe in
    let inside = row_inside p rows run 0 room f c.as_slice.result.now c.as_slice-2.result.now
    c.as_slice.ensures c.as_slice-2.ensures _ c.readable.ensures _ c.row.ensures.row c.requires.safe in
    omega (arith, inside)

pub go_on-requires-clause-safe : goal.go_on-requires-clause-safe
go_on-requires-clause-safe c =
    let p = c.args.input.now.parts.now in
    let rows = rows_in c.args.input.now in
    let run = c.args.run.now in
    let room = run.frame.stack.room in
    let f = in_row_there p rows run 0 room c.requires.stage refl
    c.requires.safe in
    row_safely p rows run 0 room f c.as_slice.result.now c.as_slice-2.result.now
    c.as_slice.ensures c.as_slice-2.ensures _ c.readable.ensures _ c.row.ensures.row c.requires.safe

pub end_row-requires-clause-fine : goal.end_row-requires-clause-fine
end_row-requires-clause-fine c = λ fault.
    let p = c.args.input.now.parts.now in
    let rows = rows_in c.args.input.now in
    let run = c.args.run.now in
    let room = run.frame.stack.room in
    let f = in_row_there p rows run 0 room c.requires.stage refl
    c.requires.safe in
    c.requires.safe.never_faults (0 + c.in_ok-made.made)
    (row_ended p rows run 0 room f c.as_slice.result.now c.as_slice-2.result.now
    c.as_slice.ensures c.as_slice-2.ensures _ c.readable.ensures _ c.row.ensures.row c.requires.safe c.in_ok-made.made c.in_ok-made.ensures.inside c.go_on.new.frame
    c.in_ok-made.ensures.stands
    c.if-run-section.true ∙ fault)

pub returns-in_ok-end_row-clause-some : goal.returns-in_ok-end_row-clause-some
returns-in_ok-end_row-clause-some c =
    let p = c.args.input.now.parts.now in
    let rows = rows_in c.args.input.now in
    let run = c.args.run.now in
    let room = run.frame.stack.room in
    let f = in_row_there p rows run 0 room c.requires.stage refl
    c.requires.safe in
    row_made p rows run 0 room f c.as_slice.result.now c.as_slice-2.result.now
    c.as_slice.ensures c.as_slice-2.ensures _ c.readable.ensures _ c.row.ensures.row c.requires.safe c.in_ok-made.made c.in_ok-made.ensures.inside c.go_on.new.frame
    c.in_ok-made.ensures.stands
    c.args.most c.requires.more c.in_ok-made.ensures.ends

pub returns-else-run-section-clause-some : goal.returns-else-run-section-clause-some
returns-else-run-section-clause-some c =
    let p = c.args.input.now.parts.now in
    let rows = rows_in c.args.input.now in
    let run = c.args.run.now in
    let room = run.frame.stack.room in
    let f = in_row_there p rows run 0 room c.requires.stage refl
    c.requires.safe in
    row_made p rows run 0 room f c.as_slice.result.now c.as_slice-2.result.now
    c.as_slice.ensures c.as_slice-2.ensures _ c.readable.ensures _ c.row.ensures.row c.requires.safe c.in_ok-made.made c.in_ok-made.ensures.inside c.go_on.new.frame
    c.in_ok-made.ensures.stands
    c.args.most c.requires.more c.in_ok-made.ensures.ends

pub returns-in_ok-end_row-clause-goes : goal.returns-in_ok-end_row-clause-goes
returns-in_ok-end_row-clause-goes c =
    let p = c.args.input.now.parts.now in
    let rows = rows_in c.args.input.now in
    let run = c.args.run.now in
    let room = run.frame.stack.room in
    let f = in_row_there p rows run 0 room c.requires.stage refl
    c.requires.safe in
    goes_on_from p (stand_of rows run) 0 c.in_ok-made.made _ _ refl
    (c.in_ok-end_row.ensures.stand
    ∙ sym (row_ended p rows run 0 room f c.as_slice.result.now c.as_slice-2.result.now
    c.as_slice.ensures c.as_slice-2.ensures _ c.readable.ensures _ c.row.ensures.row c.requires.safe c.in_ok-made.made c.in_ok-made.ensures.inside c.go_on.new.frame
    c.in_ok-made.ensures.stands
    c.if-run-section.true))
    (row_going p rows run 0 room f c.as_slice.result.now c.as_slice-2.result.now
    c.as_slice.ensures c.as_slice-2.ensures _ c.readable.ensures _ c.row.ensures.row c.requires.safe c.in_ok-made.made c.in_ok-made.ensures.inside c.go_on.new.frame
    c.in_ok-made.ensures.stands)

pub returns-else-run-section-clause-goes : goal.returns-else-run-section-clause-goes
returns-else-run-section-clause-goes c =
    let p = c.args.input.now.parts.now in
    let rows = rows_in c.args.input.now in
    let run = c.args.run.now in
    let room = run.frame.stack.room in
    let f = in_row_there p rows run 0 room c.requires.stage refl
    c.requires.safe in
    goes_on_from p (stand_of rows run) 0 c.in_ok-made.made _ _ refl
    (row_at_next p rows run 0 room f c.as_slice.result.now c.as_slice-2.result.now
    c.as_slice.ensures c.as_slice-2.ensures _ c.readable.ensures _ c.row.ensures.row c.requires.safe c.in_ok-made.made c.in_ok-made.ensures.inside c.go_on.new.frame
    c.in_ok-made.ensures.stands
    _ c.if-run-section.false refl refl refl c.requires.stage)
    (row_going p rows run 0 room f c.as_slice.result.now c.as_slice-2.result.now
    c.as_slice.ensures c.as_slice-2.ensures _ c.readable.ensures _ c.row.ensures.row c.requires.safe c.in_ok-made.made c.in_ok-made.ensures.inside c.go_on.new.frame
    c.in_ok-made.ensures.stands)
