use Rattle.query_tables.proofs.TableFacts.{one_table}
use Rattle.query_tables.proofs.laws.one_table_each.Goals as goal

pub returns : goal.returns
returns c = one_table
