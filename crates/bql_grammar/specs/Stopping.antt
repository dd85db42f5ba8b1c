-- What readers of clauses give, and where they stop.
use Rattle.std.specs.Prelude.{◌≡◌, List, [], Result, Ok, Err}
use Rattle.theory.specs.Form.{Form, Reads, HasNone}
use Rattle.bql_lexer.specs.declared.kind.Kind.{Kind}
use Rattle.bql_lexer.specs.declared.token.Token.{Token}
use Rattle.bql_grammar.specs.Beginning.{BeginsOne, Before}
use Rattle.bql_grammar.specs.Nesting.{Standing, wanting, enclosing, others, role, Parts, Stops}
use Rattle.bql_grammar.specs.declared.stuck.Stuck.{Stuck}
use Rattle.bql_grammar.specs.declared.stuck.Stuck.TheVariants.{OutOfMemory, At}
use denote.Bor.{Bor}

-- an operand is wanted there, and nothing is open
abbrev pub IsFresh : Standing → List Token → Type 0
IsFresh p ts = p ≡ wanting []

-- the next word of a clause stands in nothing
pub record IsClear (p : Standing) (ts : List Token) : Type 0 where
  pub none : enclosing p.within ≡ []
  pub alone : others p ts ≡ 0

-- such a word begins what may stand there
abbrev pub IsClearFor : Kind → Standing → List Token → Type 0
IsClearFor k p ts = (role k ≡ Parts) × IsClear p ts

-- what is read and what stands behind it; or nothing can be read, where memory doesn't lack, and
-- this is where the tokens stop: those before begin something of the form
abbrev pub GivesFrom : {V X : Type 0} → (Standing → List Token → Type 0) → Form Token V → (X → V)
    → List Token → Result (X × Bor (List Token)) Stuck → Type 0
GivesFrom from form view ts (Ok r) = Reads form ts (view r.0) r.1.now
GivesFrom from form view ts (Err OutOfMemory) = Unit {0}
GivesFrom from form view ts (Err (At left is_deep)) =
    HasNone form ts × ((p : Standing) → from p ts → Stops p ts left is_deep)
    × Before (BeginsOne form) ts left
