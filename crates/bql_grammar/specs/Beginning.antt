-- What some tokens begin: with others behind them they would be read.
use Rattle.std.specs.Prelude.{◌≡◌, ℕ, List, [], ◌∷◌, ◌++◌, length}
use Rattle.theory.specs.Form.{Form}
use Rattle.bql_lexer.specs.declared.kind.Kind.TheVariants as kind
use Rattle.bql_lexer.specs.declared.token.Token.{Token}
use Rattle.bql_grammar.specs.declared.stuck.Stuck.{Stuck}
use Rattle.bql_grammar.specs.declared.stuck.Stuck.TheVariants.{OutOfMemory, At}

-- an expression ends there: at the end, or at a parenthesis that closes
abbrev pub IsEnd : List Token → Type 0
IsEnd [] = Unit {0}
IsEnd (t ∷ ts) = t.kind ≡ kind.CloseParenthesis

-- the tokens begin something of the form, wherever it is to end
abbrev pub BeginsOne : {V : Type 0} → Form Token V → List Token → Type 0
BeginsOne {V} form tokens =
    (rest : List Token) → IsEnd rest
    → (tail : List Token) × (v : V) × form.reads (tokens ++ (tail ++ rest)) v rest

-- it holds of the tokens before so many that are left
pub record Before (holds : List Token → Type 0) (ts : List Token) (left : ℕ) : Type 0 where
  pub passed : List Token
  pub rest : List Token
  pub cut : ts ≡ passed ++ rest
  pub are_left : length rest ≡ left
  pub so : holds passed

-- the tokens before the place where a reader stops begin something of the form
abbrev pub IsBegun : {V : Type 0} → Form Token V → List Token → Stuck → Type 0
IsBegun form ts OutOfMemory = Unit {0}
IsBegun form ts (At left is_deep) = Before (BeginsOne form) ts left
