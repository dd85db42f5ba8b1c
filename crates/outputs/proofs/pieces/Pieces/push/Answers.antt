use Rattle.std.proofs.Common.{◌≡◌, ap, sym, subst, ◌∙◌}
use Rattle.outputs.specs.Pieces.{Waits}
use Rattle.outputs.proofs.PieceFacts.{failed, stays}
use Rattle.outputs.proofs.pieces.Pieces.push.Goals as goal

pub returns-in_err-flush-clause-puts : goal.returns-in_err-flush-clause-puts
returns-in_err-flush-clause-puts g c start text waits =
    let kept : c.try_extend_from_slice.new.self ≡ c.self.inside.waiting =
    failed c.try_extend_from_slice.result _ (sym c.is_ok.ensures.value ∙ c.if-is_ok.false)
    c.try_extend_from_slice.ensures.err in
    let same : c.args.self.now
    ≡ record { waiting = c.try_extend_from_slice.new.self.items; taken = c.self.inside.taken } =
    sym c.self.view_is
    ∙ ap (λ w. record { waiting = w.items; taken = c.self.inside.taken }) (sym kept) in
    stays g.W.Output start c.flush.new.out c.flush.new.self text c.args.piece.now
    c.from_residual.result c.from_residual.ensures.0
    (c.in_err-flush.ensures.flushes start text
    (subst (λ p. Waits g.W.Output start c.args.out.now p text) same waits))
