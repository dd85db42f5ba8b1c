use Rattle.std.proofs.Common.{◌+◌, refl, arith, sym, subst}
use Rattle.outputs.specs.Output.{TookFront}
use Rattle.outputs.specs.Pieces.{Waits}
use Rattle.outputs.proofs.PieceFacts.{flushed, stopped}
use Rattle.outputs.proofs.pieces.Pieces.flush.Goals as goal

pub returns-then-count-len-clause-flushes : goal.returns-then-count-len-clause-flushes
returns-then-count-len-clause-flushes g c start text waits =
    let o = g.W.Output in
    let before = c.args.out.now in
    let after = c.write_bytes-count.new.out in
    let n = c.write_bytes-count.result in
    stopped o start before after
    (record { waiting = c.self.inside.waiting.items; taken = c.self.inside.taken }) text n
    (subst (λ p. Waits o start before p text) (sym c.self.view_is) waits)
    (subst (λ bytes. TookFront o before after bytes n) c.as_slice.ensures.value
    c.write_bytes-count.ensures) (omega (arith, c.if-count-len.true, c.len.ensures.value))

pub returns-clause-flushes : goal.returns-clause-flushes
returns-clause-flushes g c start text waits =
    let o = g.W.Output in
    let before = c.args.out.now in
    let after = c.write_bytes-count.new.out in
    let n = c.write_bytes-count.result in
    flushed o start before after
    (record { waiting = c.self.inside.waiting.items; taken = c.self.inside.taken })
    (record { waiting = c.clear.new.self.items; taken = c.self.inside.taken + n }) text n
    (subst (λ p. Waits o start before p text) (sym c.self.view_is) waits)
    (subst (λ bytes. TookFront o before after bytes n) c.as_slice.ensures.value
    c.write_bytes-count.ensures) (omega (arith, c.if-count-len.false, c.len.ensures.value))
    c.clear.ensures refl
