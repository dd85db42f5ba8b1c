use Rattle.std.proofs.Common.{◌+◌, [], ◌++◌, take, drop, arith, sym, subst}
use Rattle.std.proofs.Math.ListN.{get_or}
use Rattle.std.proofs.lemmas.List.{take_all}
use Rattle.std.proofs.lemmas.List.Folds.{length-flat_map-take}
use Rattle.outputs.proofs.PieceFacts.{early, length_is, nothing, parted, told}
use Rattle.outputs.specs.Output.{TookInPieces}
use Rattle.outputs.specs.Pieces.{Waits}
use Rattle.fault_printer.specs.Lines.{line_of, lines_of}
use Rattle.fault_printer.proofs.LineFacts.{no_fault}
use Rattle.fault_printer.proofs.lines.write_lines.Goals as goal

pub loop-fault-init : goal.loop-fault-init
loop-fault-init g c =
    let start = c.args.out.now in
    subst (λ p. Waits g.W.Output start start p []) (sym c.new-pieces.ensures)
    (nothing g.W.Output start)

pub push_line-requires : goal.push_line-requires
push_line-requires g c =
    let files = c.args.files.now in
    let faults = c.args.faults.now in
    let i = c.loop-fault.fault-index in
    omega (
      arith,
      c.requires,
      length_is g.W.Output c.args.out.now c.loop-fault.out c.loop-fault.pieces
          (lines_of files (take i faults)) c.loop-fault.invariant,
      length-flat_map-take (line_of files) faults i no_fault
          c.loop-fault-test.true,
    )

pub returns-in-Err : goal.returns-in-Err
returns-in-Err g c =
    let o = g.W.Output in
    let start = c.args.out.now in
    let files = c.args.files.now in
    let faults = c.args.faults.now in
    let i = c.loop-fault.fault-index in
    let before = lines_of files (take i faults) in
    let after = c.push_line.new.out in
    let n = c.push_line.new.pieces.taken in
    let stopped = c.in-Err.ensures start before c.loop-fault.invariant in
    subst (TookInPieces o start after (lines_of files faults)) (sym c.taken.ensures)
    (subst (λ l. TookInPieces o start after l n)
    (sym (parted (line_of files) faults i no_fault c.loop-fault-test.true))
    (early o start after (before ++ line_of files (get_or faults i no_fault))
    (lines_of files (drop (i + 1) faults)) n stopped.0 stopped.1))

pub returns : goal.returns
returns g c =
    let o = g.W.Output in
    let start = c.args.out.now in
    let files = c.args.files.now in
    let faults = c.args.faults.now in
    let after = c.flush.new.out in
    let waits = subst (λ fs. Waits o start c.loop-fault.out c.loop-fault.pieces (lines_of files fs))
    (take_all c.loop-fault.fault-index faults c.loop-fault-test.false) c.loop-fault.invariant in
    subst (TookInPieces o start after (lines_of files faults)) (sym c.taken-2.ensures)
    (told o start after c.flush.new.self (lines_of files faults) c.flush.result
    (c.flush.ensures.flushes start (lines_of files faults) waits) c.flush.ensures.empty)
