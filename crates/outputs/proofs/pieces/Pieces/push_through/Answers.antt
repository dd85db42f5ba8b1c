use Rattle.std.proofs.Common.{◌+◌, refl, ap, sym, ◌∙◌, ◌++◌}
use Rattle.outputs.specs.Pieces.{Pieces}
use Rattle.outputs.proofs.PieceFacts.{flushed, more, stopped}
use Rattle.outputs.proofs.pieces.Pieces.push_through.Goals as goal

pub returns-then-count-piece-clause-puts : goal.returns-then-count-piece-clause-puts
returns-then-count-piece-clause-puts g c start text waits =
    let o = g.W.Output in
    let piece = c.args.piece.now in
    let old = c.args.self.now in
    let alone : Pieces = record { waiting = piece; taken = c.self.inside.taken } in
    let none = ap (λ l. l ++ piece) c.requires.empty in
    stopped o start c.args.out.now c.write_bytes-count.new.out alone (text ++ piece)
    c.write_bytes-count.result
    (more o start c.args.out.now old alone text piece (sym none) (ap (λ p. p.taken) c.self.view_is) waits)
    c.write_bytes-count.ensures c.if-count-piece.true

pub returns-clause-puts : goal.returns-clause-puts
returns-clause-puts g c start text waits =
    let o = g.W.Output in
    let piece = c.args.piece.now in
    let old = c.args.self.now in
    let n = c.write_bytes-count.result in
    let alone : Pieces = record { waiting = piece; taken = c.self.inside.taken } in
    let none = ap (λ l. l ++ piece) c.requires.empty in
    flushed o start c.args.out.now c.write_bytes-count.new.out alone
    (record { waiting = c.self.inside.waiting.items; taken = c.self.inside.taken + n }) (text ++ piece) n
    (more o start c.args.out.now old alone text piece (sym none) (ap (λ p. p.taken) c.self.view_is) waits)
    c.write_bytes-count.ensures c.if-count-piece.false
    (ap (λ p. p.waiting) c.self.view_is ∙ c.requires.empty) refl
