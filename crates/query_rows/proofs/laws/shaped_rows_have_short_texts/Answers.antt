use Rattle.query_rows.proofs.ShapedFacts.{texts_lie}
use Rattle.query_rows.proofs.laws.shaped_rows_have_short_texts.Goals as goal

pub returns : goal.returns
returns c = texts_lie
