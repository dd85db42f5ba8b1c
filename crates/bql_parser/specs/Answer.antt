-- What a query stands for.
use Rattle.bql_parser.specs.Asked.{Asked}
use Rattle.bql_parser.specs.View.{asked_of}
use Rattle.bql_parser.specs.declared.query.Query.{Query}

abbrev pub query_of : Query → Asked
query_of q = asked_of q.distinct q.targets q.filters q.group q.order q.limit
