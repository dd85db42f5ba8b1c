use Rattle.std.proofs.Common.{ℕ, ◌+◌, List, [], ◌++◌, length, take, drop, arith, sym, ap, subst}
use Rattle.std.proofs.Common.{Ok, Err, Bor}
use Rattle.std.proofs.Math.ListN.{get_or}
use Rattle.std.proofs.lemmas.List.{append-nil, length-append, take_all}
use Rattle.std.proofs.lemmas.List.Folds.{length-flat_map-take}
use Rattle.outputs.proofs.PieceFacts.{MovesOn, one_longer, parted, puts_both, puts_none}
use Rattle.outputs.specs.Pieces.{Puts, Waits, together}
use Rattle.outputs.proofs.pieces.Pieces.push_all.Goals as goal

-- it stands where there is none
abbrev no_piece : Bor (List ℕ)
no_piece = record { ref_ptr = (0, 0); now = [] }

abbrev bytes : Bor (List ℕ) → List ℕ
bytes p = p.now

pub loop-piece-init : goal.loop-piece-init
loop-piece-init g c = record {
  moves = λ start text w. subst (Waits g.W.Output start c.args.out.now c.args.self.now)
      (sym (append-nil text)) w;
  length = omega arith;
}

pub push-requires : goal.push-requires
push-requires g c =
    omega (
      arith,
      c.requires,
      c.loop-piece.invariant.length,
      length-flat_map-take bytes
          c.args.pieces.now c.loop-piece.piece-index no_piece c.loop-piece-test.true,
    )

pub returns-in_err-push : goal.returns-in_err-push
returns-in_err-push g c =
    let o = g.W.Output in
    let pieces = c.args.pieces.now in
    let i = c.loop-piece.piece-index in
    let old = c.args.self.now in
    let new = c.push.new.self in
    let first = c.args.out.now in
    let last = c.push.new.out in
    let before = together (take i pieces) in
    let piece = bytes (get_or pieces i no_piece) in
    let result = c.from_residual.result in
    let stops = puts_both o first c.loop-piece.out last old c.loop-piece.self new before piece
    (Err c.in_err-push.field-0.0) c.loop-piece.invariant.moves c.in_err-push.ensures.puts in
    subst (λ all. Puts o first last old new all result)
    (sym (parted bytes pieces i no_piece c.loop-piece-test.true))
    (puts_none o first last old new (before ++ piece) (together (drop (i + 1) pieces)) result
    c.from_residual.ensures.0 stops)

pub loop-piece-preserved : goal.loop-piece-preserved
loop-piece-preserved g c =
    let o = g.W.Output in
    let pieces = c.args.pieces.now in
    let i = c.loop-piece.piece-index in
    let old = c.args.self.now in
    let new = c.push.new.self in
    let first = c.args.out.now in
    let last = c.push.new.out in
    let before = together (take i pieces) in
    let piece = bytes (get_or pieces i no_piece) in
    let longer = one_longer bytes pieces i no_piece c.loop-piece-test.true in record {
      moves = subst (MovesOn o first last old new) (sym longer)
          (puts_both o first c.loop-piece.out last old c.loop-piece.self new before piece (Ok tt)
          c.loop-piece.invariant.moves c.in_ok-push.ensures.puts);
      length = omega (arith, c.in_ok-push.ensures.length, c.loop-piece.invariant.length, length-append before piece, ap length longer);
    }

pub returns : goal.returns
returns g c start text w =
    subst (λ pieces. Waits g.W.Output start c.loop-piece.out c.loop-piece.self (text ++ together pieces))
    (take_all c.loop-piece.piece-index c.args.pieces.now c.loop-piece-test.false)
    (c.loop-piece.invariant.moves start text w)
