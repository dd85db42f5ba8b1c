use Rattle.std.proofs.Common.{sym, ap, ◌∙◌}
use Rattle.std.specs.Cmp.Lexicographic.{slice_cmp, texts_ties}
use Rattle.std.specs.Ordering.{is_eq, nat_cmp}
use Rattle.bean_base.specs.Text.{read_text}
use Rattle.bean_base.proofs.texts.TextPartialEq.eq.Goals as goal

pub returns : goal.returns
returns c =
    c.is_eq.ensures
    ∙ ap is_eq (c.order_of_read.ensures
    ∙ (λ k. slice_cmp nat_cmp (read_text (c.as_bytes.ensures.value k))
    (read_text (c.as_bytes-2.ensures.value k))))
    ∙ (λ k. is_eq (slice_cmp nat_cmp (c.self.view_is k) (c.other.view_is k)))
    ∙ sym (texts_ties c.args.self.now c.args.other.now)
