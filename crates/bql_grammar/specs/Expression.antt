-- Expressions, each rule as far as it goes.
--
-- or = and {OR and}    and = not {AND not}    not = NOT not | comparison
-- comparison = sum [("="|"!="|"<"|"<="|">"|">=") sum | "~" text
--              | IN "(" literal {"," literal} ")" | IN sum]
-- sum = product {("+"|"-") product}    product = unary {"*" unary}
-- unary = ("+"|"-") unary | atom
-- atom = literal | name | name "(" ["*" | or {"," or}] ")" | "(" or ")"
use Rattle.std.specs.Prelude.{◌≡◌, ℕ, zero, suc, ◌&&◌, ◌⊎◌, Bool, true, false, List, [], Option}
use Rattle.std.specs.Prelude.{Some}
use Rattle.limits.specs.declared.counts.TheConstants.{MOST_NESTED}
use Rattle.theory.specs.Form.{Form, made, ending, row, chain, alone, snoc}
use Rattle.bql_lexer.specs.declared.kind.Kind.{Kind}
use Rattle.bql_lexer.specs.declared.kind.Kind.TheVariants as kind
use Rattle.bql_lexer.specs.declared.token.Token.{Token}
use Rattle.bql_tree.specs.Call.{is_count, called, listed}
use Rattle.bql_grammar.specs.Front as fronts
use Rattle.bql_grammar.specs.Front.{front, begins, of_kind, begins_with_list, begins_with_call}
use Rattle.bql_tree.specs.Part as parts
use Rattle.bql_tree.specs.Part.{Part}
use Rattle.bql_tree.specs.declared.function.Scope.{Scope}
use Rattle.bql_tree.specs.declared.level.Level.{Level}
use Rattle.bql_tree.specs.declared.level.Level.TheVariants as level
use Rattle.bql_tree.specs.declared.tree.BinaryOperator.TheVariants as binary

-- a token that is told to stand for something
abbrev pub told : {V : Type 0} → (Token → Option V) → Form Token V
told f = record { reads = λ ts v rest. front f ts ≡ Some (v, rest); goes_on = λ rest. false }

abbrev pub token : Kind → Form Token Token
token k = told (of_kind k)

-- one behind the other, where the second may depend on what was read
abbrev pub then : {V W : Type 0} → Form Token V → (V → Form Token W) → Form Token W
then {V} {W} a k = record {
  reads = λ ts w rest. (v : V) × (mid : List Token) × a.reads ts v mid × (k v).reads mid w rest;
  goes_on = λ rest. false;
}

-- the first where the test says that it begins, and else the second
abbrev pub choice : {V : Type 0} → (List Token → Bool) → Form Token V → Form Token V → Form Token V
choice test a b = record {
  reads = λ ts v rest. ((test ts ≡ true) × a.reads ts v rest)
      ⊎ ((test ts ≡ false) × b.reads ts v rest);
  goes_on = λ rest. false;
}

abbrev pub nothing : {V : Type 0} → Form Token V
nothing = record { reads = λ ts v rest. ⊥; goes_on = λ rest. false }

-- operators of a level between expressions, grouped to the left
abbrev pub chained : Level → Form Token Part → Form Token Part
chained level a = ending (chain (begins (fronts.operator level)) (told (fronts.operator level)) a
    parts.two)

abbrev pub behind_comma : {V : Type 0} → Form Token V → Form Token V
behind_comma a = then (token kind.Comma) (λ comma. a)

-- one or more with commas between them
abbrev pub list_of : {V : Type 0} → Form Token V → Form Token (List V)
list_of a = ending (row (begins (of_kind kind.Comma)) a alone (behind_comma a) snoc)

abbrev pub literal : Form Token Part
literal = then (told fronts.literal) (λ found. made (parts.leaf found.0 found.1))

abbrev pub literals : Form Token (List Part)
literals = list_of literal

-- a list behind what is looked for in it
abbrev pub list_behind : Part → Form Token Part
list_behind left =
    then (token kind.In) (λ word. then (token kind.OpenParenthesis)
    (λ opening. then literals (λ items.
    then (token kind.CloseParenthesis) (λ close. made (listed left items close)))))

-- where a parenthesis, sign or NOT may still stand in the others
abbrev pub with_room : {V : Type 0} → ℕ → Form Token V → Form Token V
with_room zero a = nothing
with_room (suc room) a = a

abbrev pub list : ℕ → Part → Form Token Part
list room left = with_room room (list_behind left)

abbrev pub sum_of : Form Token Part → Form Token Part
sum_of u = chained level.Sum (chained level.Product u)

abbrev pub compared : Form Token Part → Part → Form Token Part
compared s left = then (told fronts.comparison)
    (λ op. then s (λ right. made (parts.two op left right)))

abbrev pub matched : Part → Form Token Part
matched left = then (token kind.Tilde)
    (λ tilde. then (token kind.Text) (λ text. made (parts.matched left text)))

abbrev pub contained : Form Token Part → Part → Form Token Part
contained s left = then (token kind.In)
    (λ word. then s (λ right. made (parts.two binary.In left right)))

-- what a sum is compared with, if there is something
abbrev pub compared_if_due : ℕ → Form Token Part → Part → Form Token Part
compared_if_due room s left =
    choice (begins fronts.comparison) (compared s left)
    (choice (begins (of_kind kind.Tilde)) (matched left)
    (choice begins_with_list (list room left)
    (choice (begins (of_kind kind.In)) (contained s left) (made left))))

abbrev pub comparison_of : ℕ → Form Token Part → Form Token Part
comparison_of room u = then (sum_of u) (compared_if_due room (sum_of u))

abbrev pub denied_of : Form Token Part → Form Token Part
denied_of n = then (token kind.Not) (λ word. then n (λ inner. made (parts.denied word inner)))

abbrev pub signed_of : Form Token Part → Form Token Part
signed_of u = then (told fronts.sign)
    (λ sign. then u (λ inner. made (parts.signed sign.0 sign.1 inner)))

abbrev pub or_of : Form Token Part → Form Token Part
or_of n = chained level.Or (chained level.And n)

abbrev pub group_of : Form Token Part → Form Token Part
group_of or =
    then (token kind.OpenParenthesis) (λ opening. then or (λ inner.
    then (token kind.CloseParenthesis) (λ close. made (parts.group opening inner close))))

-- no argument where a parenthesis closes at once
abbrev pub arguments_of : Form Token Part → Form Token (List Part)
arguments_of or = choice (begins (of_kind kind.CloseParenthesis)) (made []) (list_of or)

abbrev pub counted : Token → Form Token Part
counted name = then (token kind.Star) (λ star. then (token kind.CloseParenthesis)
    (λ close. made (parts.rows name close)))

abbrev pub begins_with_count : Token → List Token → Bool
begins_with_count name ts = is_count name && begins (of_kind kind.Star) ts

abbrev pub inside_call : Scope → Form Token Part → Token → Form Token Part
inside_call scope or name =
    choice (begins_with_count name) (counted name)
    (then (arguments_of or) (λ ps. then (token kind.CloseParenthesis)
    (λ close. made (called scope name ps close))))

abbrev pub call_of : Scope → Form Token Part → Form Token Part
call_of scope or = then (token kind.Name) (λ name. then (token kind.OpenParenthesis)
    (λ opening. inside_call scope or name))

abbrev pub name : Scope → Form Token Part
name scope = then (token kind.Name) (λ name. made (parts.name scope name))

abbrev pub atom_of : Scope → Form Token Part → Form Token Part → Form Token Part
atom_of scope group call =
    choice (begins fronts.literal) literal
    (choice (begins (of_kind kind.OpenParenthesis)) group (choice begins_with_call call
    (name scope)))

abbrev pub unary_of : Scope → Form Token Part → Form Token Part → Form Token Part → Form Token Part
unary_of scope sign group call = choice (begins fronts.sign) sign (atom_of scope group call)

abbrev pub negation_of : Form Token Part → Form Token Part → Form Token Part
negation_of not comparison = choice (begins (of_kind kind.Not)) not comparison

-- unary expressions and negations
pub record Inner : Type 1 where
  pub unary : Form Token Part
  pub negation : Form Token Part

abbrev pub innermost : Scope → Inner
innermost scope = record {
  unary = unary_of scope nothing nothing nothing;
  negation = negation_of nothing (comparison_of 0 (unary_of scope nothing nothing nothing));
}

abbrev pub unary_around : Scope → Inner → Form Token Part
unary_around scope inner = unary_of scope (signed_of inner.unary) (group_of (or_of inner.negation))
    (call_of scope (or_of inner.negation))

abbrev pub around : Scope → ℕ → Inner → Inner
around scope room inner = record {
  unary = unary_around scope inner;
  negation = negation_of (denied_of inner.negation) (comparison_of room (unary_around scope inner));
}

-- so many parentheses, signs and NOTs may stand in one another
unfoldable pub inner : Scope → ℕ → Inner
inner scope zero = innermost scope
inner scope (suc room) = around scope (suc room) (inner scope room)

abbrev pub unary : Scope → ℕ → Form Token Part
unary scope room = (inner scope room).unary

abbrev pub negation : Scope → ℕ → Form Token Part
negation scope room = (inner scope room).negation

abbrev pub comparison : Scope → ℕ → Form Token Part
comparison scope room = comparison_of room (unary scope room)

abbrev pub operand : Level → Scope → ℕ → Form Token Part
operand level.Or scope room = chained level.And (negation scope room)
operand level.And scope room = negation scope room
operand level.Sum scope room = chained level.Product (unary scope room)
operand level.Product scope room = unary scope room

abbrev pub chain_at : Level → Scope → ℕ → Form Token Part
chain_at level scope room = chained level (operand level scope room)

abbrev pub grouped : Scope → ℕ → Form Token Part
grouped scope zero = nothing
grouped scope (suc room) = group_of (or_of (negation scope room))

abbrev pub call : Scope → ℕ → Form Token Part
call scope zero = nothing
call scope (suc room) = call_of scope (or_of (negation scope room))

abbrev pub atom : Scope → ℕ → Form Token Part
atom scope room = atom_of scope (grouped scope room) (call scope room)

abbrev pub arguments : Scope → ℕ → Form Token (List Part)
arguments scope room = arguments_of (or_of (negation scope room))

abbrev pub expression : Scope → Form Token Part
expression scope = chain_at level.Or scope MOST_NESTED
