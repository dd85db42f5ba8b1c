use Rattle.std.proofs.Common.{Err, ap, arith, length, sym, ◌∙◌}
use Rattle.std.specs.List.{flat_map}
use Rattle.bean_replay.specs.Booked.{with_pads}
use Rattle.bean_book.specs.Rows.{rows_of_pad}
use Rattle.bean_book.proofs.LedgerFacts.{is_ledger, is_ledger_so_far, put, refused, rows_in_all}
use Rattle.bean_book.proofs.LeftOutFacts.{as_many_padded, as_many_rows}
use Rattle.bean_book.specs.declared.details.Details.TheVariants.{All}
use Rattle.bean_book.proofs.ledger.with_pads.Goals as goal

pub put_pads-requires-clause-room : goal.put_pads-requires-clause-room
put_pads-requires-clause-room c =
    let details = c.args.details in
    let l = c.args.rows in
    let qs = c.args.pads.items in
    let so_far = c.requires.booked in
    let all = rows_in_all details so_far.0 l qs so_far.1 so_far.2 in
    let same = ap length (put details so_far.0 l qs so_far.1) in
    let sum = c.in-Ok.ensures.sum in
    let few = c.in-Ok.ensures.few in
    let kept = c.len-kept.ensures.count in
    let lent =
    as_many_padded details qs
    ∙ sym (ap (λ ps. length (flat_map (rows_of_pad All) ps)) c.deref.ensures.value) in
    omega (arith, all, same, sum, few, kept, lent)

pub returns-in-Err : goal.returns-in-Err
returns-in-Err c = λ ds so_far as_many.
    let details = c.args.details in
    let l = c.args.rows in
    let qs = c.args.pads.items in
    let all = rows_in_all details ds l qs so_far as_many in
    let kept = c.len-kept.ensures.count in
    let lent =
    as_many_padded details qs
    ∙ sym (ap (λ ps. length (flat_map (rows_of_pad All) ps)) c.deref.ensures.value) in
    refused details (with_pads ds qs) c.in-Err.fault
    (λ is.
    let full = c.in-Err.ensures.full (ap Err is) in
    let rows = as_many_rows details (with_pads ds qs) in omega (arith, full, all, kept, lent, rows))

pub returns-then-all-kept : goal.returns-then-all-kept
returns-then-all-kept c = λ ds so_far as_many.
    let details = c.args.details in
    let l = c.args.rows in
    let qs = c.args.pads.items in
    let sum = c.in-Ok.ensures.sum in
    let few = c.in-Ok.ensures.few in
    let kept = c.len-kept.ensures.count in
    let lent =
    as_many_padded details qs
    ∙ sym (ap (λ ps. length (flat_map (rows_of_pad All) ps)) c.deref.ensures.value) in
    let same = c.if-all-kept.true in
    is_ledger_so_far details ds l qs so_far as_many (omega (arith, sum, lent, same))
    (omega (arith, few, sum, kept))

pub returns : goal.returns
returns c = λ ds so_far as_many.
    let details = c.args.details in
    let l = c.args.rows in
    let qs = c.args.pads.items in
    let sum = c.in-Ok.ensures.sum in
    let few = c.in-Ok.ensures.few in
    let kept = c.len-kept.ensures.count in
    let all = rows_in_all details ds l qs so_far as_many in
    let lent =
    as_many_padded details qs
    ∙ sym (ap (λ ps. length (flat_map (rows_of_pad All) ps)) c.deref.ensures.value) in
    is_ledger details ds l qs c.put_pads.new.ledger so_far
    (c.in_ok-put_pads.ensures.rows ∙ put details ds l qs so_far) c.in_ok-put_pads.ensures.decimals
    (omega (arith, all, sum, few, kept, lent))
