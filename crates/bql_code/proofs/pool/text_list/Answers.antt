use Rattle.std.proofs.Common.{◌<◌, ◌^◌, length, sym, subst}
use Rattle.bql_code.proofs.FormFacts.{short_text}
use Rattle.bql_code.proofs.pool.text_list.Goals as goal

pub push-requires-clause-short : goal.push-requires-clause-short
push-requires-clause-short c =
    subst (λ t. length t < 2 ^ 16) (sym c.text.ensures) (short_text c.text-item.result)
