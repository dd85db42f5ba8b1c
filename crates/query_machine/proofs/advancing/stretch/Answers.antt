use Rattle.std.proofs.Common.{arith, refl}
use Rattle.query_runs.specs.Stands.{rows_in}
use Rattle.query_machine.proofs.Ends.{counted, safe_here, still_under_way}
use Rattle.query_machine.proofs.advancing.stretch.Goals as goal

pub go_on-requires-clause-safe : goal.go_on-requires-clause-safe
go_on-requires-clause-safe c =
    safe_here c.args.input.now.parts.now (rows_in c.args.input.now) c.args.standing.now
    c.requires.under_way

pub overflow_add-standing : goal.overflow_add-standing
overflow_add-standing c =
    let few = counted c.args.input.now.parts.now (rows_in c.args.input.now) c.args.standing.now
    c.requires.under_way c.in_ok-made.made c.go_on.new.run c.in_ok-made.ensures.goes in
    omega (arith, few)

pub drop_rows-requires : goal.drop_rows-requires
drop_rows-requires c =
    still_under_way c.args.input.now.parts.now (rows_in c.args.input.now) c.args.standing.now
    c.requires.under_way c.in_ok-made.made c.go_on.new.run c.in_ok-made.ensures.goes _ refl refl
    refl c.go_on.ensures.finders c.go_on.ensures.room
