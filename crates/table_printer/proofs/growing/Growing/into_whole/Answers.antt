use Rattle.std.proofs.Common.{◌++◌, ap, ◌∙◌}
use Rattle.std.proofs.lemmas.List.{take_all}
use Rattle.table_printer.specs.Growing.{together}
use Rattle.table_printer.proofs.GrowingFacts.{last_behind}
use Rattle.table_printer.proofs.growing.Growing.into_whole.Goals as goal

pub returns : goal.returns
returns c =
    let full = c.args.self.full.items in
    let items = c.deref-piece-items.result.now in
    let i = c.loop-piece.piece-index in
    let all =
    c.loop-piece.invariant ∙ ap together (take_all i items c.loop-piece-test.false)
    ∙ ap together c.deref-piece-items.ensures.value in
    c.in_ok-extend_from_slice-2.ensures.items
    ∙ (λ k. all k ++ c.deref.ensures.value k)
    ∙ last_behind full c.args.self.last.items
