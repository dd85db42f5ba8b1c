use Rattle.std.proofs.Common.{sym, ap, ◌∙◌, min, ◌^◌}
use Rattle.bean_base.specs.Numeral.{count_of}
use Rattle.bql_tree.specs.Number as rule
use Rattle.bql_tree.proofs.number.number.Goals as goal

pub returns-in-Some : goal.returns-in-Some
returns-in-Some c =
    let bs = c.args.text.now in
    ap (rule.number_by bs)
    (sym c.in-Some.is ∙ c.decimal.ensures
    ∙ ap (λ p. rule.decimal p c.capped_count.result) c.places.ensures
    ∙ ap (rule.decimal (rule.places bs)) (c.capped_count.ensures
    ∙ ap (λ bs. min (2 ^ 127) (count_of bs)) c.as_bytes.ensures.value))
