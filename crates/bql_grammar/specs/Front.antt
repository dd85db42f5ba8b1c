-- What stands at the front of some tokens.
use Rattle.std.specs.Prelude.{ℕ, ◌||◌, Bool, true, false, List, [], ◌∷◌, Option, Some}
use Rattle.std.specs.Prelude.{None, is_some, if◌then◌else◌}
use Rattle.bean_base.specs.CalendarDay as calendar
use Rattle.bean_base.specs.Day.{is_day_form, year_of, month_of, day_of}
use Rattle.bean_base.specs.declared.days.Day as days
use Rattle.bql_lexer.specs.Kind.{same_kind}
use Rattle.bql_lexer.specs.declared.kind.Kind.{Kind}
use Rattle.bql_lexer.specs.declared.kind.Kind.TheVariants as kind
use Rattle.bql_lexer.specs.declared.token.Token.{Token}
use Rattle.bql_tree.specs.Level as level_rules
use Rattle.bql_tree.specs.Number.{number}
use Rattle.bql_tree.specs.declared.level.Level.{Level}
use Rattle.bql_tree.specs.declared.tree.BinaryOperator.{BinaryOperator}
use Rattle.bql_tree.specs.declared.tree.Leaf as leaves
use Rattle.bql_tree.specs.declared.tree.Leaf.TheVariants as leaf

abbrev pub before : {V : Type 0} → List Token → Option V → Option (V × List Token)
before rest (Some v) = Some (v, rest)
before rest None = None

-- what the first token is told to stand for, and what stands behind it
abbrev pub front : {V : Type 0} → (Token → Option V) → List Token → Option (V × List Token)
front f [] = None
front f (t ∷ rest) = before rest (f t)

-- whether the first token stands for something
abbrev pub begins : {V : Type 0} → (Token → Option V) → List Token → Bool
begins f ts = is_some (front f ts)

-- What tokens stand for.

abbrev pub of_kind : Kind → Token → Option Token
of_kind k t = if same_kind t.kind k then Some t else None

abbrev pub operator : Level → Token → Option BinaryOperator
operator level t = level_rules.operator_of level t.kind

abbrev pub comparison : Token → Option BinaryOperator
comparison t = level_rules.comparison_of t.kind

abbrev pub with_token : {V : Type 0} → Token → Option V → Option (Token × V)
with_token t (Some v) = Some (t, v)
with_token t None = None

-- true where it is a minus
abbrev pub sign : Token → Option (Token × Bool)
sign t = with_token t (level_rules.sign_of t.kind)

abbrev pub day_leaf : Option days.Day → Option leaves.Leaf
day_leaf (Some d) = Some (leaf.Day d)
day_leaf None = None

abbrev pub day_by : Bool → List ℕ → Option leaves.Leaf
day_by true bs = day_leaf (calendar.day_of (year_of bs) (month_of bs) (day_of bs))
day_by false bs = None

-- a day that the calendar lacks is no literal
abbrev pub leaf_by : Kind → List ℕ → Option leaves.Leaf
leaf_by kind.Number bs = Some (number bs)
leaf_by kind.Text bs = Some (leaf.Text bs)
leaf_by kind.Day bs = day_by (is_day_form bs) bs
leaf_by kind.True bs = Some (leaf.Truth true)
leaf_by kind.False bs = Some (leaf.Truth false)
leaf_by kind.Null bs = Some leaf.Null
leaf_by k bs = None

abbrev pub leaf_of : Token → Option leaves.Leaf
leaf_of t = leaf_by t.kind t.text

abbrev pub literal : Token → Option (Token × leaves.Leaf)
literal t = with_token t (leaf_of t)

-- More than one token.

-- a test of what stands behind the first token, if it stands for something
abbrev pub and_behind : {V : Type 0} → (List Token → Bool) → Option (V × List Token) → Bool
and_behind test (Some p) = test p.1
and_behind test None = false

-- a comma or a closing parenthesis
abbrev pub ends_literal : List Token → Bool
ends_literal ts = begins (of_kind kind.Comma) ts || begins (of_kind kind.CloseParenthesis) ts

-- IN, a parenthesis, a literal, and a comma or a closing parenthesis
abbrev pub begins_with_list : List Token → Bool
begins_with_list ts =
    and_behind (λ ts. and_behind (λ ts. and_behind ends_literal (front literal ts))
    (front (of_kind kind.OpenParenthesis) ts)) (front (of_kind kind.In) ts)

-- a name and a parenthesis
abbrev pub begins_with_call : List Token → Bool
begins_with_call ts = and_behind (begins (of_kind kind.OpenParenthesis))
    (front (of_kind kind.Name) ts)
