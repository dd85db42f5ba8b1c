use Rattle.bean_postings.proofs.PostingFacts.{reads_units, none_units}
use Rattle.bean_postings.proofs.posting_line.units.Goals as goal

pub returns-in_err-parts : goal.returns-in_err-parts
returns-in_err-parts c = rw c.from_residual.ensures (none_units _ c.in_err-parts.ensures.read)

pub returns : goal.returns
returns c = rw c.units_of.ensures (reads_units _ _ _ c.in_ok-parts.ensures.read)
