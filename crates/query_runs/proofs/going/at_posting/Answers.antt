use Rattle.std.proofs.Common.{refl, arith}
use Rattle.query_runs.specs.Stands.{rows_in}
use Rattle.query_runs.proofs.FilterStage.{in_filter_there, filter_safely, filter_inside, some_made}
use Rattle.query_runs.proofs.FilterStage.{filter_went}
use Rattle.query_runs.proofs.Starts.{posting_there}
use Rattle.query_runs.proofs.going.at_posting.Goals as goal

pub row-requires : goal.row-requires
row-requires c =
    let p = c.args.input.now.parts.now in
    let rows = rows_in c.args.input.now in
    let run = c.args.run.now in
    let room = run.frame.stack.room in
    let f = in_filter_there p rows run 0 room c.requires.stage refl c.requires.safe in
    posting_there c.args.input.now.ledger.now run.row f.there

pub go_on-requires-clause-within : goal.go_on-requires-clause-within
go_on-requires-clause-within c =
    let p = c.args.input.now.parts.now in
    let rows = rows_in c.args.input.now in
    let run = c.args.run.now in
    let room = run.frame.stack.room in
    let f = in_filter_there p rows run 0 room c.requires.stage refl c.requires.safe in
    let inside = filter_inside p rows run 0 room f c.args.section.now.instructions.now c.args.section.now.pool.now
    c.requires.instructions c.requires.pool _ c.row.ensures.row c.requires.safe in
    omega (arith, inside)

pub go_on-requires-clause-safe : goal.go_on-requires-clause-safe
go_on-requires-clause-safe c =
    let p = c.args.input.now.parts.now in
    let rows = rows_in c.args.input.now in
    let run = c.args.run.now in
    let room = run.frame.stack.room in
    let f = in_filter_there p rows run 0 room c.requires.stage refl c.requires.safe in
    filter_safely p rows run 0 room f c.args.section.now.instructions.now c.args.section.now.pool.now
    c.requires.instructions c.requires.pool _ c.row.ensures.row c.requires.safe

pub returns-clause-some : goal.returns-clause-some
returns-clause-some c =
    let p = c.args.input.now.parts.now in
    let rows = rows_in c.args.input.now in
    let run = c.args.run.now in
    let room = run.frame.stack.room in
    let f = in_filter_there p rows run 0 room c.requires.stage refl c.requires.safe in
    some_made p rows run 0 room f c.args.section.now.instructions.now c.args.section.now.pool.now
    c.requires.instructions c.requires.pool _ c.row.ensures.row c.requires.safe c.in_ok-made.made
    c.in_ok-made.ensures.inside c.go_on.new.frame c.in_ok-made.ensures.stands
    c.args.most c.requires.more c.in_ok-made.ensures.ends

pub returns-clause-went : goal.returns-clause-went
returns-clause-went c =
    let p = c.args.input.now.parts.now in
    let rows = rows_in c.args.input.now in
    let run = c.args.run.now in
    let room = run.frame.stack.room in
    let f = in_filter_there p rows run 0 room c.requires.stage refl c.requires.safe in
    filter_went p rows run 0 room f c.args.section.now.instructions.now c.args.section.now.pool.now
    c.requires.instructions c.requires.pool _ c.row.ensures.row c.requires.safe c.in_ok-made.made
    c.in_ok-made.ensures.inside c.go_on.new.frame c.in_ok-made.ensures.stands
    _ refl refl refl refl c.requires.stage

pub returns-clause-there : goal.returns-clause-there
returns-clause-there c =
    let p = c.args.input.now.parts.now in
    let rows = rows_in c.args.input.now in
    let run = c.args.run.now in
    let room = run.frame.stack.room in
    let f = in_filter_there p rows run 0 room c.requires.stage refl c.requires.safe in
    f.there
