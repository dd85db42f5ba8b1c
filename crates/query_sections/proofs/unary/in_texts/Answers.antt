use Rattle.std.proofs.Common.{List, ℕ, map, nat_eq, sym, ap, ◌∙◌}
use Rattle.std.specs.Cmp.Lexicographic.{pointwise}
use Rattle.std.specs.List.{list_any}
use Rattle.query_values.specs.Choice.{text_choice}
use Rattle.query_values.specs.Operation.{is_among}
use Rattle.query_values.proofs.MembershipFacts.{among_texts, no_text}
use Rattle.query_sections.proofs.unary.in_texts.Goals as goal

pub returns-in-Text : goal.returns-in-Text
returns-in-Text c =
    c.has.ensures
    ∙ ap (λ (t : List ℕ). list_any (pointwise nat_eq t) c.args.texts.now) c.text.ensures
    ∙ among_texts c.in-Text.text c.args.texts.now
    ∙ ap (is_among (map text_choice c.args.texts.now)) (sym c.in-Text.is)

pub returns-in_default : goal.returns-in_default
returns-in_default c = no_text c.args.x.now c.args.texts.now c.in_default.not-Text
