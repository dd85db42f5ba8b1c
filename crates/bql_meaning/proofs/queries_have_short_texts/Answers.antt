use Rattle.bql_meaning.proofs.ShortFacts as law
use Rattle.bql_meaning.proofs.queries_have_short_texts.Goals as goal

pub returns : goal.returns
returns c = law.queries_have_short_texts
