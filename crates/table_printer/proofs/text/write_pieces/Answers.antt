use Rattle.std.proofs.Common.{◌+◌, ℕ, List, ◌++◌, length, take, drop, arith, refl, sym, ap, subst, ◌∙◌}
use Rattle.std.proofs.lemmas.List.{length-append}
use Rattle.std.proofs.lemmas.List.Folds.{length-flat_map-take}
use Rattle.outputs.proofs.PieceFacts.{early, one_longer, parted}
use Rattle.outputs.specs.Output.{TookFront, TookInPieces}
use Rattle.table_printer.specs.Growing.{together}
use Rattle.table_printer.proofs.TextFacts.{next, nothing}
use Rattle.table_printer.proofs.text.write_pieces.Goals as goal

abbrev bytes : List ℕ → List ℕ
bytes p = p

pub loop-piece-init : goal.loop-piece-init
loop-piece-init g c = record { took = nothing g.W.Output c.args.out.now; whole = refl }

pub overflow_add-written : goal.overflow_add-written
overflow_add-written g c =
    let ps = c.args.pieces.now in
    let i = c.loop-piece.piece-index in
    let p = c.piece-item.result in
    omega (
      arith,
      c.requires,
      c.loop-piece.invariant.whole,
      c.write_bytes-count.ensures.within,
      ap length c.as_slice-bytes.ensures,
      ap length c.piece-item.is,
      length-flat_map-take bytes ps i p c.loop-piece-test.true,
    )

pub returns-then-count-bytes : goal.returns-then-count-bytes
returns-then-count-bytes g c =
    let o = g.W.Output in
    let start = c.args.out.now in
    let now = c.loop-piece.out in
    let after = c.write_bytes-count.new.out in
    let ps = c.args.pieces.now in
    let i = c.loop-piece.piece-index in
    let p = c.piece-item.result in
    let before = together (take i ps) in
    let rest = together (drop (i + 1) ps) in
    let n = c.write_bytes-count.result in
    let written = c.loop-piece.written in
    let more =
    subst (λ l. TookFront o now after l n) c.as_slice-bytes.ensures c.write_bytes-count.ensures in
    let taken = next o start now after before p written n c.loop-piece.invariant.took
    c.loop-piece.invariant.whole more in
    subst (λ l. TookInPieces o start after l (written + n))
    (sym (parted bytes ps i p c.loop-piece-test.true
    ∙ ap (λ l. (before ++ l) ++ rest) (sym c.piece-item.is)))
    (early o start after (before ++ p) rest (written + n) taken
    (omega (
      arith,
      c.loop-piece.invariant.whole,
      c.if-count-bytes.true,
      ap length c.as_slice-bytes.ensures,
      length-append before p,
    )))

pub loop-piece-preserved : goal.loop-piece-preserved
loop-piece-preserved g c =
    let o = g.W.Output in
    let start = c.args.out.now in
    let now = c.loop-piece.out in
    let after = c.write_bytes-count.new.out in
    let ps = c.args.pieces.now in
    let i = c.loop-piece.piece-index in
    let p = c.piece-item.result in
    let before = together (take i ps) in
    let n = c.write_bytes-count.result in
    let written = c.loop-piece.written in
    let longer = one_longer bytes ps i p c.loop-piece-test.true
    ∙ ap (λ l. before ++ l) (sym c.piece-item.is) in
    let more =
    subst (λ l. TookFront o now after l n) c.as_slice-bytes.ensures c.write_bytes-count.ensures in
    record {
      took = subst (λ l. TookInPieces o start after l (written + n)) (sym longer)
          (next o start now after before p written n c.loop-piece.invariant.took
          c.loop-piece.invariant.whole more);
      whole = omega (
        arith,
        c.loop-piece.invariant.whole,
        c.if-count-bytes.false,
        c.write_bytes-count.ensures.within,
        ap length c.as_slice-bytes.ensures,
        ap length longer,
        length-append before p,
      );
    }
