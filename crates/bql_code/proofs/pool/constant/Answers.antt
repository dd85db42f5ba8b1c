use Rattle.std.proofs.Common.{◌<◌, ◌^◌, length, sym, subst}
use Rattle.bql_code.proofs.FormFacts.{texts_few}
use Rattle.bql_code.proofs.pool.constant.Goals as goal

pub text_list-requires : goal.text_list-requires
text_list-requires c =
    subst (λ ts. length ts < 2 ^ 16) (sym c.as_slice.ensures)
    (texts_few c.args.entry.now c.in-Texts.texts c.in-Texts.is)
