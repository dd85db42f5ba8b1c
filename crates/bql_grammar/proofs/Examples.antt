-- In how many others a token stands behind some tokens.
use Rattle.std.proofs.Common.{◌≡◌, ℕ, List, [], ◌∷◌, map, refl}
use Rattle.bql_lexer.specs.declared.kind.Kind.{Kind}
use Rattle.bql_lexer.specs.declared.kind.Kind.TheVariants.{OpenParenthesis, CloseParenthesis, Minus}
use Rattle.bql_lexer.specs.declared.kind.Kind.TheVariants.{Plus, Not, And, In, Name, Number, Comma}
use Rattle.bql_lexer.specs.declared.token.Token.{Token}
use Rattle.bql_grammar.specs.Nesting.{wanting, through, others}

abbrev a_token : Kind → Token
a_token k = record { text = []; start = 0; end = 0; kind = k }

abbrev inside : List Kind → Kind → ℕ
inside before k = others (through (wanting []) (map a_token before)) (a_token k ∷ [])

-- ( ( and another
two_parentheses : inside (OpenParenthesis ∷ OpenParenthesis ∷ []) OpenParenthesis ≡ 2
two_parentheses = refl

-- a sign ends with its operand, and a parenthesis with another
one_operand : inside (Minus ∷ Number ∷ []) OpenParenthesis ≡ 0
one_operand = refl

one_group : inside (Minus ∷ OpenParenthesis ∷ Number ∷ CloseParenthesis ∷ []) Not ≡ 0
one_group = refl

in_a_group : inside (Minus ∷ OpenParenthesis ∷ Number ∷ []) OpenParenthesis ≡ 2
in_a_group = refl

-- the arguments of a call stand in the sign before its name
a_call : inside (Minus ∷ Name ∷ []) OpenParenthesis ≡ 1
a_call = refl

-- a sum goes on with the operand of NOT, and AND doesn't
a_sum : inside (Not ∷ Minus ∷ Name ∷ Plus ∷ []) OpenParenthesis ≡ 1
a_sum = refl

two_denials : inside (Not ∷ Name ∷ And ∷ []) Not ≡ 0
two_denials = refl

-- lists nest as groups do
a_list : inside (Not ∷ Name ∷ In ∷ OpenParenthesis ∷ Number ∷ Comma ∷ []) OpenParenthesis ≡ 2
a_list = refl
