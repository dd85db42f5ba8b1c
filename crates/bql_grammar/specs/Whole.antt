-- Whole queries, as they are read.
use Rattle.std.specs.Prelude.{ℕ, List, [], Result, Ok, Err}
use Rattle.theory.specs.Form.{Reads, IsNone}
use Rattle.bql_lexer.specs.declared.token.Token.{Token}
use Rattle.bql_grammar.specs.Beginning.{BeginsOne, Before}
use Rattle.bql_grammar.specs.Nesting.{wanting, Stops}
use Rattle.bql_grammar.specs.declared.stuck.Stuck.{Stuck}
use Rattle.bql_grammar.specs.declared.stuck.Stuck.TheVariants.{OutOfMemory, At}
use Rattle.bql_grammar.specs.Grammar.{query}
use Rattle.bql_grammar.specs.Read.{read_of}
use Rattle.bql_grammar.specs.declared.clauses.QueryRead.{QueryRead}

-- all the tokens are a query, and no other; or they are none, where memory doesn't lack, and this is
-- where they stop: those before begin one
abbrev pub IsRead : List ℕ → List Token → Result QueryRead Stuck → Type 0
IsRead text ts (Ok r) = Reads (query text) ts (read_of r) []
IsRead text ts (Err OutOfMemory) = Unit {0}
IsRead text ts (Err (At left is_deep)) =
    IsNone (query text) ts × Stops (wanting []) ts left is_deep
    × Before (BeginsOne (query text)) ts left
