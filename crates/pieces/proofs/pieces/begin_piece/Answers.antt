use Rattle.std.proofs.Common.{◌∙◌, ◌∷◌, [], ◌++◌, ap, slice_set}
use Rattle.std.proofs.Math.Seq.{set-append_seam}
use Rattle.pieces.proofs.pieces.begin_piece.Goals as goal

pub returns-clause-begun : goal.returns-clause-begun
returns-clause-begun g c =
    let full = c.args.full.now.items in
    let last = c.args.last.now.items in
    (λ i. slice_set (c.in_ok-push.ensures.items i) ((c.len-at.ensures ∙ c.args.full.now.ok.0) i) c.new-3.result)
    ∙ set-append_seam full c.new-2.result [] c.new-3.result
    ∙ ap (λ p. full ++ p ∷ []) (c.new-3.ensures ∙ ap (λ v. v.items) c.replace.ensures.value)
