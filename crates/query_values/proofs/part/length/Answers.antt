use Rattle.std.proofs.Common.{rules}
use Rattle.std.proofs.lemmas.Str.{chars_from_encodes}
use Rattle.query_values.proofs.part.length.Goals as goal

pub returns-in-Text : goal.returns-in-Text
returns-in-Text c = search (rules, chars_from_encodes)
