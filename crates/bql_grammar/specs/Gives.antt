-- What a reader gives by a rule of the grammar.
use Rattle.std.specs.Prelude.{List, Result, Ok, Err}
use Rattle.theory.specs.Form.{Form, Reads, HasNone}
use Rattle.bql_lexer.specs.declared.token.Token.{Token}
use Rattle.bql_grammar.specs.declared.stuck.Stuck.{Stuck}
use Rattle.bql_grammar.specs.declared.stuck.Stuck.TheVariants.{OutOfMemory, At}
use denote.Bor.{Bor}

-- what is read and what stands behind it; or nothing can be read, where memory doesn't lack
abbrev pub Gives : {V X : Type 0} → Form Token V → (X → V) → List Token
    → Result (X × Bor (List Token)) Stuck → Type 0
Gives form view ts (Ok r) = Reads form ts (view r.0) r.1.now
Gives form view ts (Err OutOfMemory) = Unit {0}
Gives form view ts (Err (At left is_deep)) = HasNone form ts
