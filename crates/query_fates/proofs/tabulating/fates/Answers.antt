use Rattle.std.proofs.Common.{arith, sym}
use Rattle.std.proofs.lemmas.Option.{get_or_from_slice_get}
use Rattle.query_fates.proofs.FateFacts.{as_many, end_at, fate_next}
use Rattle.query_fates.proofs.tabulating.fates.Goals as goal

pub member-requires : goal.member-requires
member-requires c =
    let many = as_many c.args.ledger.now c.args.programs.now c.in_ok-batch.batch
    c.in_ok-batch.ensures in
    omega (arith, many, c.loop-number-test.true)

pub fate_of-requires : goal.fate_of-requires
fate_of-requires c =
    let own = get_or_from_slice_get c.in_ok-batch.batch c.loop-number.number c.member.result.now
    c.member.result.now (sym c.member.ensures) in
    end_at c.args.ledger.now c.args.programs.now c.in_ok-batch.batch c.loop-number.number
    c.index-programs-number.result c.member.result.now c.in_ok-batch.ensures
    c.loop-number-test.true c.index-programs-number.is (sym own)

pub loop-number-preserved : goal.loop-number-preserved
loop-number-preserved c =
    fate_next c.args.ledger.now c.args.programs.now c.loop-number.fates.items
    c.push.new.self.items c.loop-number.number c.index-programs-number.result c.fate_of.result
    c.loop-number-test.true c.index-programs-number.is c.in_ok-push.ensures.items
    c.loop-number.invariant c.fate_of.ensures
