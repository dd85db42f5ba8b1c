use Rattle.std.proofs.Common.{ℕ, List, Ok, arith, ap, sym, ◌∙◌}
use Rattle.query_file.proofs.CutFacts.{behind_number, is_read, counted_texts}
use Rattle.query_file.proofs.code_reading.some_texts_at.Goals as goal

pub slice_bounds-written-count : goal.slice_bounds-written-count
slice_bounds-written-count c =
    (is_read c.in_ok-len.len c.in_ok-len.rest.now c.in_ok-after.after.now
    (behind_number c.args.bytes.now c.in_ok-len.rest.now c.in_ok-len.len
    (λ i. omega (arith, c.type_inv.bytes i)) c.in_ok-len.ensures)
    c.in_ok-after.ensures).shorter

pub lent-requires : goal.lent-requires
lent-requires c =
    (is_read c.in_ok-len.len c.in_ok-len.rest.now c.in_ok-after.after.now
    (behind_number c.args.bytes.now c.in_ok-len.rest.now c.in_ok-len.len
    (λ i. omega (arith, c.type_inv.bytes i)) c.in_ok-len.ensures)
    c.in_ok-after.ensures).are_texts

pub returns : goal.returns
returns c =
    let is =
    is_read c.in_ok-len.len c.in_ok-len.rest.now c.in_ok-after.after.now
    (behind_number c.args.bytes.now c.in_ok-len.rest.now c.in_ok-len.len
    (λ i. omega (arith, c.type_inv.bytes i)) c.in_ok-len.ensures) c.in_ok-after.ensures in
    counted_texts c.args.bytes.now c.in_ok-len.rest.now c.in_ok-after.after.now c.in_ok-len.len _
    c.in_ok-len.ensures c.in_ok-after.ensures
    ∙ ap (λ (ts : List (List ℕ)). Ok (ts, c.in_ok-after.after.now))
    (sym is.same ∙ sym c.lent.ensures)
